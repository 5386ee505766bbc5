-- What a move answers and leaves, by what the code found: refused as the check is, a record that may not move, or laid out. Over the two
-- formats and the way. Assumes nothing.
use mathlib.Core.Path.{◌≡◌, refl, sym, ap, subst, ◌∙◌}
use mathlib.Core.Bool.{Bool, true, false}
use mathlib.Core.List.{List, [], ◌∷◌, map}
use Prim.Native.Nat.{ℕ, ◌+◌, ◌*◌, ◌≤◌, ◌<◌}
use native.Mathlib.Omega.{arith}
use lib.Dec.{T, leb}
use lib.ListN.{length, get_or, drop}
use Rattle.rules.specs.Refusals.{Answer, Gives, Refused, RefusedAt, ◌then◌, demand, given, not_of_kind}
use Rattle.rules.specs.Kinds.{Kind, Stored, handed}
use Rattle.rules.specs.Book.{Format, sound_by, head_size, pieces, first_bad, all_pass, records, check, kind_of_code, version1}
use Rattle.rules.proofs.OnBook.FrameLaws.{Sensible, same-refusal, same_place}
use Rattle.rules.proofs.OnBook.BookLaws.{Holds, Counted, counted, none-fails, one-fails}
use Rattle.rules.proofs.OnBook.EntryLaws.{version1-sensible}
use Rattle.refusals.specs.declared.Refusal.{Refusal}
use Rattle.refusals.specs.Answers.{refusal_as}
use Rattle.refusals.proofs.RefusalLaws.{refused}
use Rattle.requests.specs.Laid.{laid}
use Rattle.requests.specs.Second.{FieldEntry, field_in, date_in, field_entry_of, version2}
use Rattle.requests.specs.Moves.{Way, field_or_mark, leaving, moved, move_answer, filled_with, move_buffer, widened, narrowed, plain, upward, downward}
use Rattle.requests.proofs.OnEntries.EachLaws.{Each}
use Rattle.requests.proofs.OnSecond.FieldEntryLaws.{version2-sensible}
use Rattle.requests.proofs.OnMoves.PassLaws.{each-passes}
use Rattle.requests.proofs.OnMoves.RoundTrips.{up-leaves}
use Rattle.book.specs.Views.{entry_with, sound_sized}
use Rattle.book_versions.specs.Recast.{lay_answer, lay_buffer}

-- ---- over the way

module _ {A B : Type 0} {from : Format A} {to : Format B} (way : Way from to) (s t : List ℕ) where
  -- what the answer x, and the target u after it, have to be
  abbrev pub Done : Answer ℕ → List ℕ → Type 0
  Done x u = (x ≡ move_answer way s t) × (u ≡ move_buffer way s t)

  by-records : {x : Answer (List (List ℕ))} → records from s ≡ x → leaving way s ≡ (x then all_pass field_or_mark way.passes then λ rs. Gives (map way.change rs))
  unfolding leaving
  by-records e = ap (λ x. x then all_pass field_or_mark way.passes then λ rs. Gives (map way.change rs)) e

  -- what refuses the book refuses the move
  pub move-refused : (n : ℕ) → check from s ≡ Refused n → Done (Refused n) t
  unfolding move_answer moved filled_with check
  move-refused n e = rw (by-records (same-refusal (records from s) length n e)) (refl, refl)

  pub move-bad : (n place : ℕ) → check from s ≡ RefusedAt n place → Done (RefusedAt n place) t
  unfolding move_answer moved filled_with check
  move-bad n place e = rw (by-records (same_place (records from s) length n place e)) (refl, refl)

  pub move-refusing : (e : Refusal) → check from s ≡ refusal_as e → Done (refusal_as e) t
  move-refusing e h = by (refusal_as e) h (refused ℕ e)
    where
      by : (x : Answer ℕ) → check from s ≡ x → given x ≡ false → Done x t
      by (Gives n) g u = cc
      by (Refused n) g u = move-refused n g
      by (RefusedAt n place) g u = move-bad n place g

  -- a record may not move: the place of the first
  pub move-stops : (rs : List (List ℕ)) → records from s ≡ Gives rs → first_bad way.passes rs < length rs → Done (RefusedAt field_or_mark (first_bad way.passes rs)) t
  unfolding move_answer moved filled_with
  move-stops rs e h = rw (by-records e, one-fails field_or_mark way.passes rs h) (refl, refl)

  pub none-stops : (rs : List (List ℕ)) → records from s ≡ Gives rs → length rs ≤ first_bad way.passes rs → leaving way s ≡ Gives (map way.change rs)
  none-stops rs e h = by-records e ∙ rw (none-fails field_or_mark way.passes rs h)

  -- what leaves is laid out, where the target has room
  pub move-lays : (xs : List (List ℕ)) (n : ℕ) → length xs ≡ n → leaving way s ≡ Gives xs →
      (x : Answer ℕ) (u : List ℕ) → x ≡ lay_answer to.frame.size n t → u ≡ lay_buffer to.frame.size to.frame.version xs t → Done x u
  unfolding move_answer moved filled_with lay_answer lay_buffer laid
  move-lays xs n c e x u p q = by (leb (head_size + length xs * to.frame.size) (length t)) refl
    where
      answer : x ≡ lay_answer to.frame.size (length xs) t
      answer = p ∙ ap (λ (m : ℕ). lay_answer to.frame.size m t) (sym c)

      by : (b : Bool) → leb (head_size + length xs * to.frame.size) (length t) ≡ b → Done x u
      by true h = rw (answer, q, e, h) (refl, refl)
      by false h = rw (answer, q, e, h) (refl, refl)

-- ---- from the number of records: the list of them

module _ {A : Type 0} (format : Format A) (sensible : Sensible format.frame) (s : List ℕ) (n : ℕ) (e : check format s ≡ Gives n) where
  abbrev ones : List (List ℕ)
  ones = pieces n format.frame.size (drop head_size s)

  has : Counted format sensible s n
  has = counted format sensible s n e

  list-is : has.list ≡ ones
  list-is = sym (rw has.count at has.holds.frame.cut)

  pub ones-found : records format s ≡ Gives ones
  ones-found = has.found ∙ ap Gives list-is

  pub ones-hold : Holds format s ones
  ones-hold = subst (Holds format s) list-is has.holds

  pub ones-many : length ones ≡ n
  ones-many = ap length (sym list-is) ∙ has.count

  pub ones-fit : head_size + n * format.frame.size ≤ length s
  ones-fit = let f = has.holds.frame.fits in let c = has.count in rw c at f

  pub ones-few : n ≤ format.frame.most
  ones-few = let m = has.holds.frame.most in let c = has.count in omega arith

-- ---- to version 2

module _ (s t : List ℕ) (n : ℕ) (e : check version1 s ≡ Gives n) where
  pub up-ones : leaving upward s ≡ Gives (map widened (pieces n 5 (drop head_size s)))
  up-ones = up-leaves s _ (ones-hold version1 version1-sensible s n e)

-- ---- to version 1: of records of version 2, those are plain that would be sound in a plain book

-- what a record is where field number and mark are tested, and where they are not
tested : (x : Answer Kind) (field : ℕ) (d : Stored) (t : Bool) →
    given {A = FieldEntry} (x then λ k. handed k d then λ f. Gives (record { kind = k; field = field; date = d })) ≡ true →
    given {A = FieldEntry} (x then λ k. demand t not_of_kind (handed k d) then λ f. Gives (record { kind = k; field = field; date = d })) ≡ t
tested (Gives k) field d true g = g
tested (Gives k) field d false g = refl
tested (Refused n) field d t g = absurd (subst T (sym g) tt)
tested (RefusedAt n place) field d t g = absurd (subst T (sym g) tt)

plain-sound : (r : List ℕ) → sound_by version2 r ≡ true → sound_sized 7 true r ≡ plain r
unfolding entry_with field_entry_of
plain-sound r g = tested (kind_of_code (get_or r 0 0)) (field_in r) (date_in r) (plain r) g

pub plain-search : (rs : List (List ℕ)) → Each (λ r. sound_by version2 r ≡ true) rs → first_bad (sound_sized 7 true) rs ≡ first_bad plain rs
unfolding first_bad
plain-search [] p = refl
plain-search (r ∷ rs) p = rw (plain-sound r p.0, plain-search rs p.1)

module _ (s t : List ℕ) (n : ℕ) (e : check version2 s ≡ Gives n) {m : ℕ} (f : m ≡ first_bad (sound_sized 7 true) (pieces n 7 (drop head_size s))) where
  abbrev twos : List (List ℕ)
  twos = pieces n 7 (drop head_size s)

  first-is : m ≡ first_bad plain twos
  first-is = f ∙ plain-search twos (each-passes (sound_by version2) twos (ones-hold version2 version2-sensible s n e).sound)

  pub down-stops : m < n → Done downward s t (RefusedAt field_or_mark m) t
  down-stops h =
      let c = ones-many version2 version2-sensible s n e in
      let z : first_bad plain twos < length twos = rw (← first-is, c) h in
      subst (λ (x : ℕ). Done downward s t (RefusedAt field_or_mark x) t) (sym first-is) (move-stops downward s t twos (ones-found version2 version2-sensible s n e) z)

  pub down-ones : n ≤ m → leaving downward s ≡ Gives (map narrowed twos)
  down-ones h =
      let c = ones-many version2 version2-sensible s n e in
      none-stops downward s t twos (ones-found version2 version2-sensible s n e) (rw (← first-is, c) h)
