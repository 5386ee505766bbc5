-- "Version 1 to 2 and back gives the same bytes; 2 to 1 and back too, where not refused": the law over the two formats, both ways.
-- Assumes nothing.
use mathlib.Core.Path.{◌≡◌, refl, sym, ap, subst, ◌∙◌}
use mathlib.Core.Bool.{Bool, true, false, ◌&&◌}
use mathlib.Core.List.{List, [], ◌∷◌, ◌++◌, map}
use Prim.Native.Nat.{ℕ, ◌+◌, ◌*◌, ◌≤◌}
use native.Mathlib.Omega.{arith}
use native.Mathlib.Nat.{le_refl}
use borrow.Author.Tests.{eqb-true, eq-eqb}
use lib.Dec.{T, eqb}
use lib.ListN.{length, get_or, take, drop}
use Rattle.rules.specs.Words.{big_endian}
use Rattle.rules.specs.Refusals.{Answer, Gives, Refused, RefusedAt, ◌then◌, demand, given, not_of_kind}
use Rattle.rules.specs.Kinds.{Kind, Fields, Stored, mark_of, no_mark, handed}
use Rattle.rules.specs.Book.{sound_by, length_size, length_said, kind_of_code, Entry, unmarked_date, entry_from, version1}
use Rattle.rules.proofs.OnKinds.KindLaws.{left, right}
use Rattle.rules.proofs.OnBook.BookLaws.{Holds}
use Rattle.rules.proofs.OnBook.EntryLaws.{version1-sensible}
use Rattle.requests.specs.Second.{FieldEntry, no_field, stored_from, field_in, date_in, field_entry_of, version2}
use Rattle.requests.specs.Moves.{leaving, move_answer, widened, upward, downward}
use Rattle.requests.proofs.OnLaid.BytesLaws.{Bytes}
use Rattle.requests.proofs.OnSecond.FieldEntryLaws.{version2-sensible}
use Rattle.requests.proofs.OnMoves.PassLaws.{each-always}
use Rattle.requests.proofs.OnMoves.MoveLaws.{Undone, Moves, leaves, Back, there_and_back}

-- ---- a record of one version as one of the other

abbrev dated : Kind → Fields → Entry
dated k f = record { kind = k; date = f }

abbrev placed : Kind → ℕ → Stored → FieldEntry
placed k field d = record { kind = k; field = field; date = d }

-- what version 1, and version 2, make of a kind and a date
abbrev one : Answer Kind → Stored → Answer Entry
one x d = x then λ k. unmarked_date k d then λ f. Gives (dated k f)

abbrev two : Answer Kind → ℕ → Stored → Answer FieldEntry
two x field d = x then λ k. handed k d then λ f. Gives (placed k field d)

-- a record of version 1 has no mark
unmarked-one : (x : Answer Kind) (d : Stored) → given (one x d) ≡ true → mark_of d.word ≡ no_mark
unmarked-one (Gives k) d g = by (eqb (mark_of d.word) no_mark) refl g
  where
    by : (t : Bool) → eqb (mark_of d.word) no_mark ≡ t →
        given (demand t not_of_kind (handed k d) then λ f. Gives (dated k f)) ≡ true → mark_of d.word ≡ no_mark
    by true e g = eqb-true (mark_of d.word) no_mark e
    by false e g = absurd (subst T (sym g) tt)
unmarked-one (Refused n) d g = absurd (subst T (sym g) tt)
unmarked-one (RefusedAt n place) d g = absurd (subst T (sym g) tt)

-- without a mark, one is given where the other is
same-given : (x : Answer Kind) (d : Stored) (field : ℕ) → mark_of d.word ≡ no_mark → given (two x field d) ≡ given (one x d)
same-given (Gives k) d field z = rw (eq-eqb (mark_of d.word) no_mark z) (alike (handed k d))
  where
    alike : (y : Answer Fields) → given (y then λ f. Gives (placed k field d)) ≡ given (y then λ f. Gives (dated k f))
    alike (Gives f) = refl
    alike (Refused n) = refl
    alike (RefusedAt n place) = refl
same-given (Refused n) d field z = refl
same-given (RefusedAt n place) d field z = refl

pub up-undone : (r : List ℕ) → Moves upward r → Undone upward downward r
unfolding entry_from field_entry_of big_endian
up-undone [] m = absurd (let l = m.0 in omega arith)
up-undone (x ∷ s) m =
    let l = m.0 in
    let d = stored_from 0 s in
    let z = unmarked-one (kind_of_code x) d m.1.0 in
    record {
      long = omega arith;
      sound = same-given (kind_of_code x) d no_field z ∙ m.1.0;
      passes = rw (eq-eqb (mark_of d.word) no_mark z);
      same = refl;
    }

pub down-undone : (r : List ℕ) → Moves downward r → Undone downward upward r
unfolding entry_from field_entry_of big_endian
down-undone [] m = absurd (let l = m.0 in omega arith)
down-undone (x ∷ []) m = absurd (let l = m.0 in omega arith)
down-undone (x ∷ b ∷ []) m = absurd (let l = m.0 in omega arith)
down-undone (x ∷ b ∷ c ∷ s) m =
    let l = m.0 in
    let r = x ∷ b ∷ c ∷ s in
    let d = stored_from 0 s in
    let f = eqb-true (field_in r) no_field (left (eqb (field_in r) no_field) _ m.1.1) in
    let z = eqb-true (mark_of d.word) no_mark (right (eqb (field_in r) no_field) _ m.1.1) in
    let e : b ≡ 0 = omega arith in
    let g : c ≡ 0 = omega arith in
    record {
      long = omega arith;
      sound = sym (same-given (kind_of_code x) d (field_in r) z) ∙ m.1.0;
      passes = refl;
      same = rw (e, g);
    }

-- to version 2 every record moves
pub up-leaves : (s : List ℕ) (rs : List (List ℕ)) → Holds version1 s rs → leaving upward s ≡ Gives (map widened rs)
up-leaves s rs h = leaves upward version1-sensible s rs h (each-always (λ r. refl) rs)

-- ---- on whole books: s is the book, t the target, and u what it is moved back into

module _ (s t u : List ℕ) (b : Bytes s) (room : length_said s + length_size ≤ length u) (n : ℕ) where
  pub one-two-one : move_answer upward s t ≡ Gives n → Back upward downward version1-sensible version2-sensible (le_refl _) up-undone s t u b room n
  one-two-one e = there_and_back upward downward version1-sensible version2-sensible (le_refl _) up-undone s t u b room n e

  pub two-one-two : move_answer downward s t ≡ Gives n → Back downward upward version2-sensible version1-sensible (le_refl _) down-undone s t u b room n
  two-one-two e = there_and_back downward upward version2-sensible version1-sensible (le_refl _) down-undone s t u b room n e
