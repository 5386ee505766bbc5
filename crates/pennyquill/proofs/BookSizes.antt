-- The numbers that books answer are small, so that 32 bits hold them: counts and places. Once over the format and over the way of a move, then
-- at each. Assumes nothing.
use mathlib.Core.Path.{◌≡◌, refl}
use mathlib.Core.Bool.{Bool, true, false, cond, ◌&&◌}
use mathlib.Core.List.{List, [], ◌∷◌}
use Prim.Native.Nat.{ℕ, zero, suc, ◌+◌, ◌-◌, ◌/◌, ◌%◌, ◌≤◌}
use native.Mathlib.Omega.{arith}
use native.Mathlib.Nat.{le_refl}
use borrow.Author.Tests.{ltb-true}
use lib.Dec.{leb, ltb, eqb}
use lib.ListN.{length, get_or, length-map}
use Rattle.rules.specs.Words.{within}
use Rattle.rules.specs.Refusals.{Answer, Gives, Refused, RefusedAt, ◌then◌, bad_record}
use Rattle.rules.specs.Kinds.{Stored, of_kind, mark_of, no_mark, handed}
use Rattle.rules.specs.Book.{new_answer, Frame, Format, sound_by, length_size, head_size, length_limit, length_said, version_of, framed, first_bad, all_pass, records, check, pick, record_at, entry_at, place_after, append_answer, kind_of_code, unmarked_date, entry_from, entry_of, entry_for, version1}
use Rattle.rules.proofs.OnBook.FrameLaws.{Sensible, found_framed}
use Rattle.rules.proofs.OnBook.EntryLaws.{version1-sensible}
use Rattle.requests.specs.Second.{most_field, stored_from, date_in, field_entry_of, field_entry_for, version2}
use Rattle.requests.specs.Both.{retold, version1_told, format_by, both}
use Rattle.requests.specs.Moves.{Way, field_or_mark, room_for, leaving, moved, move_answer}
use Rattle.requests.proofs.OnFours.FourLaws.{least_first}
use Rattle.requests.proofs.OnSecond.FieldEntryLaws.{version2-sensible}
use Rattle.book_versions.specs.Walk.{walked}
use Rattle.pennyquill.specs.Boundary.{number_of, place_of}
use Rattle.pennyquill.proofs.Sizes.{Small, Few, Any, small-then, small-demand, small-number, small-place, handed-small, code-small}

-- at most as many records as a book has at most
abbrev FewRecords : List (List ℕ) → Type 0
FewRecords rs = length rs ≤ 4096

pass-small : (n : ℕ) (test : List ℕ → Bool) (rs : List (List ℕ)) → FewRecords rs → Small FewRecords (all_pass n test rs)
unfolding all_pass
pass-small n test rs few = inner (ltb (first_bad test rs) (length rs)) refl
  where
    inner : (t : Bool) → ltb (first_bad test rs) (length rs) ≡ t → Small FewRecords (cond t (RefusedAt n (first_bad test rs)) (Gives rs))
    inner true p = let h = ltb-true (first_bad test rs) (length rs) p in omega arith
    inner false p = few

pub pick_small : (rs : List (List ℕ)) (place : ℕ) → Small Any (pick rs place)
unfolding pick
pick_small [] place = tt
pick_small (r ∷ rs) zero = tt
pick_small (r ∷ rs) (suc place) = pick_small rs place

-- ---- over the frame

module _ (frame : Frame) (s : List ℕ) where
  pub framed-any : Small Any (framed frame s)
  unfolding framed
  framed-any =
      let next = small-demand {A = List (List ℕ)} Any in
      next (leb head_size (length s)) _ _ (λ head.
      next (within 1 (length_limit frame) (length_said s)) _ _ (λ said.
      next (leb (length_said s + length_size) (length s)) _ _ (λ fits.
      next (eqb (version_of s) frame.version) _ _ (λ version.
      next (eqb ((length_said s - 1) % frame.size) 0) _ _ (λ even. tt)))))

  framed-small : Sensible frame → frame.most ≤ 4096 → Small FewRecords (framed frame s)
  framed-small sensible few = by (framed frame s) refl framed-any
    where
      by : (x : Answer (List (List ℕ))) → framed frame s ≡ x → Small Any x → Small FewRecords x
      by (Gives rs) e p = let m = (found_framed frame sensible s rs e).most in omega arith
      by (Refused n) e p = tt
      by (RefusedAt n place) e p = p

-- a new one
pub new-small : (s : List ℕ) → number_of (new_answer s) ≤ 4096
unfolding new_answer
new-small s = small-number (new_answer s) (small-demand Few (leb head_size (length s)) _ _ (λ fits. omega arith))

-- ---- over the format: no refusal of a record has a place

pub record Modest {A : Type 0} (format : Format A) : Type 0 where
  pub sensible : Sensible format.frame
  pub few : format.frame.most ≤ 4096
  pub entries : (r : List ℕ) → Small Any (format.entry r)

module _ {A : Type 0} (format : Format A) (modest : Modest format) (s : List ℕ) where
  pub records-small : Small FewRecords (records format s)
  unfolding records
  records-small =
      small-then FewRecords FewRecords (framed format.frame s) _ (framed-small format.frame s modest.sensible modest.few)
      (λ rs few. pass-small bad_record (sound_by format) rs few)

  checked-small : Small Few (check format s)
  unfolding check
  checked-small = small-then FewRecords Few (records format s) _ records-small (λ rs few. few)

  pub check-small : number_of (check format s) ≤ 4096
  check-small = small-number (check format s) checked-small

  pub append-small : (entry : Answer (List ℕ)) → Small Any entry → number_of (append_answer format entry s) ≤ 4096
  unfolding append_answer
  append-small entry small =
      small-number (append_answer format entry s)
      (small-then Any Few entry _ small
      (λ r any. small-then Few Few (check format s then place_after format.frame s) _
      (small-then Few Few (check format s) _ checked-small
      (λ n few. small-demand Few (ltb n format.frame.most && leb (length_said s + length_size + format.frame.size) (length s)) _ _ (λ room. few)))
      (λ n few. small-demand Few (sound_by format r) _ _ (λ sound. few))))

  entry-small : (place : ℕ) → Small Any (entry_at format s place)
  unfolding entry_at record_at
  entry-small place =
      small-then Any Any (record_at format s place) _
      (small-then FewRecords Any (records format s) _ records-small (λ rs few. pick_small rs place)) (λ r any. modest.entries r)

  pub record-small : (place : ℕ) → place_of (entry_at format s place) ≤ 4096
  record-small place = small-place (entry_at format s place) (entry-small place)

  -- told otherwise
  pub told-small : {B : Type 0} (f : A → B) (place : ℕ) → place_of (retold f (entry_at format s place)) ≤ 4096
  told-small f place = small-place (retold f (entry_at format s place)) (small-then Any Any (entry_at format s place) _ (entry-small place) (λ e any. tt))

  -- and a move from it
  pub move-small : {B : Type 0} {to : Format B} (way : Way format to) (t : List ℕ) → number_of (move_answer way s t) ≤ 4096
  unfolding move_answer moved leaving
  move-small {to = to} way t =
      small-number (move_answer way s t)
      (small-then FewRecords Few (moved way s t) _
      (small-then FewRecords FewRecords (leaving way s) _
      (small-then FewRecords FewRecords (records format s then all_pass field_or_mark way.passes) _
      (small-then FewRecords FewRecords (records format s) _ records-small (λ rs few. pass-small field_or_mark way.passes rs few))
      (λ rs few. let m = length-map rs way.change in omega arith))
      (λ rs few. small-demand FewRecords (leb (room_for to.frame (length rs)) (length t)) _ _ (λ fits. few)))
      (λ rs few. few))

-- ---- version 1

one-entries : (r : List ℕ) → Small Any (entry_of r)
unfolding entry_from
one-entries r =
    let d = stored_from 1 r in
    small-then Any Any (kind_of_code (get_or r 0 0)) _ (code-small (get_or r 0 0))
    (λ k any. small-then (λ f. of_kind k f ≡ true) Any (unmarked_date k d) _
    (small-demand (λ f. of_kind k f ≡ true) (eqb (mark_of d.word) no_mark) _ _ (λ none. handed-small k d)) (λ f p. tt))

pub one : Modest version1
one = record { sensible = version1-sensible; few = le_refl _; entries = one-entries }

pub one-handed : (code : ℕ) (d : Stored) → Small Any (entry_for code d)
unfolding entry_for
one-handed code d =
    small-then Any Any (kind_of_code code) _ (code-small code)
    (λ k any. small-then (λ f. of_kind k f ≡ true) Any (handed k d) _ (handed-small k d) (λ f p. tt))

-- ---- version 2

two-entries : (r : List ℕ) → Small Any (field_entry_of r)
unfolding field_entry_of
two-entries r =
    small-then Any Any (kind_of_code (get_or r 0 0)) _ (code-small (get_or r 0 0))
    (λ k any. small-then (λ f. of_kind k f ≡ true) Any (handed k (date_in r)) _ (handed-small k (date_in r)) (λ f p. tt))

pub two : Modest version2
two = record { sensible = version2-sensible; few = le_refl _; entries = two-entries }

pub two-handed : (code field : ℕ) (d : Stored) → Small Any (field_entry_for code field d)
unfolding field_entry_for
two-handed code field d =
    small-then Any Any (kind_of_code code) _ (code-small code)
    (λ k any. small-demand Any (leb field most_field) _ _
    (λ held. small-then (λ f. of_kind k f ≡ true) Any (handed k d) _ (handed-small k d) (λ f p. tt)))

-- ---- either version

told : Modest version1_told
told = record { sensible = version1-sensible; few = le_refl _; entries = λ r. small-then Any Any (entry_of r) _ (one-entries r) (λ e any. tt) }

pub either : (s : List ℕ) → Modest (both s)
unfolding format_by
either s = by (eqb (version_of s) version2.frame.version)
  where
    by : (t : Bool) → Modest (cond t version2 version1_told)
    by true = two
    by false = told

pub walk-small : (s : List ℕ) (place room : ℕ) → number_of (walked s place room) ≤ 4096
unfolding walked
walk-small s place room =
    small-number (walked s place room)
    (small-then Few Few (check (both s) s) _ (checked-small (both s) (either s) s)
    (λ n few. let l = least_first (n - place) (room / 4) in omega arith))
