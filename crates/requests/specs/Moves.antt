-- Document 02, #107: "Move either way into a second buffer", over the two formats; then from version 1 to 2, and back. Assumes nothing.
use Rattle.std.specs.Prelude.{ℕ, ◌+◌, ◌*◌, Bool, true, ◌&&◌, List, [], ◌∷◌, ◌++◌, map, leb, eqb, length, take, drop}
use Rattle.rules.specs.Refusals.{Answer, Gives, Refused, RefusedAt, ◌then◌, demand, no_room}
use Rattle.rules.specs.Kinds.{mark_of, no_mark}
use Rattle.rules.specs.Book.{Frame, Format, head_size, all_pass, records, version1}
use Rattle.requests.specs.Laid.{laid}
use Rattle.requests.specs.Second.{no_field, field_in, date_in, version2}

-- "21 when moving back a record with a field number or a mark, with its place"
abbrev pub field_or_mark : ℕ
field_or_mark = 21

-- which records of one format may move to another, and what each becomes
pub record Way {A B : Type 0} (from : Format A) (to : Format B) : Type 0 where
  pub passes : List ℕ → Bool
  pub change : List ℕ → List ℕ

-- the room that a move needs: the bytes of a book of n records
abbrev pub room_for : Frame → ℕ → ℕ
room_for frame n = head_size + n * frame.size

module _ {A B : Type 0} {from : Format A} {to : Format B} (way : Way from to) where
  -- the records that move, as they become: the source's refusals, then "21 .. after 11"
  unfoldable pub leaving : List ℕ → Answer (List (List ℕ))
  leaving s = records from s then all_pass field_or_mark way.passes then λ rs. Gives (map way.change rs)

  -- those for which the target has room: "12 last, for a short target"
  unfoldable pub moved : List ℕ → List ℕ → Answer (List (List ℕ))
  moved s t = leaving s then λ rs. demand (leb (room_for to.frame (length rs)) (length t)) no_room (Gives rs)

  -- the number of records that moved
  unfoldable pub move_answer : List ℕ → List ℕ → Answer ℕ
  move_answer s t = moved s t then λ rs. Gives (length rs)

  -- the target after it: the book of those records, and the later bytes as they were; where the move is refused nothing is written
  unfoldable pub filled_with : Answer (List (List ℕ)) → List ℕ → List ℕ
  filled_with (Gives rs) t = laid to.frame rs ++ drop (room_for to.frame (length rs)) t
  filled_with (Refused n) t = t
  filled_with (RefusedAt n place) t = t

  abbrev pub move_buffer : List ℕ → List ℕ → List ℕ
  move_buffer s t = filled_with (moved s t) t

-- ---- version 1 to 2, and back

-- a record with field number 0; and one without its field number
abbrev pub widened : List ℕ → List ℕ
widened r = take 1 r ++ 0 ∷ 0 ∷ drop 1 r

abbrev pub narrowed : List ℕ → List ℕ
narrowed r = take 1 r ++ drop 3 r

-- without field number and mark
abbrev pub plain : List ℕ → Bool
plain r = eqb (field_in r) no_field && eqb (mark_of (date_in r).word) no_mark

abbrev pub upward : Way version1 version2
upward = record { passes = λ r. true; change = widened }

abbrev pub downward : Way version2 version1
downward = record { passes = plain; change = narrowed }
