-- A reader moved on gives the record at the next place, at every place; and a reader's book and place determine it. Assumes nothing.
use mathlib.Core.Path.{◌≡◌, refl, sym, ◌∙◌}
use mathlib.Core.Bool.{Bool, true, false, cond}
use mathlib.Core.List.{List}
use Prim.Native.Nat.{ℕ, ◌+◌, ◌≤◌}
use native.Mathlib.Omega.{arith}
use borrow.Author.Tests.{ltb-false}
use lib.Dec.{ltb, eqb}
use denote.Ref.{Bor}
use Rattle.rules.specs.Refusals.{Answer, Gives, Refused, RefusedAt}
use Rattle.rules.specs.Book.{Frame, Format, check, record_at, version1, version_of, entry_at}
use Rattle.rules.proofs.OnBook.FrameLaws.{Sensible}
use Rattle.rules.proofs.OnBook.BookLaws.{entry-by, counted, record-none, record-refused, record-bad}
use Rattle.rules.proofs.OnBook.EntryLaws.{version1-sensible}
use Rattle.requests.specs.Second.{version2}
use Rattle.requests.specs.Both.{version1_told, format_by, both}
use Rattle.requests.proofs.OnSecond.FieldEntryLaws.{version2-sensible}
use Rattle.book_reader.specs.Places.{next_place}
use Rattle.book_reader.specs.declared.BookReader.{BookReader}
use Rattle.book_reader.specs.declared.any.AnyBookReader.{AnyBookReader}

-- ---- the place after a place, in every format of at most as many records as version 1

pub record Short (frame : Frame) : Type 0 where
  pub sensible : Sensible frame
  pub most : frame.most ≤ version1.frame.most

module _ {A : Type 0} (format : Format A) (short : Short format.frame) (s : List ℕ) where
  -- past the most records that a book can have, every place has the same answer
  past-most : (i j : ℕ) → format.frame.most ≤ i → format.frame.most ≤ j → record_at format s i ≡ record_at format s j
  past-most i j p q = inner (check format s) refl
    where
      inner : (x : Answer ℕ) → check format s ≡ x → record_at format s i ≡ record_at format s j
      inner (Gives n) e =
          let c = counted format short.sensible s n e in
          let m = c.holds.frame.most in
          let k = c.count in
          record-none format short.sensible s n c i (omega arith) ∙ sym (record-none format short.sensible s n c j (omega arith))
      inner (Refused n) e = record-refused format s n i e ∙ sym (record-refused format s n j e)
      inner (RefusedAt n bad) e = record-bad format s n bad i e ∙ sym (record-bad format s n bad j e)

  moved : (at : ℕ) → entry_at format s (next_place at) ≡ entry_at format s (at + 1)
  moved at = inner (ltb at version1.frame.most) refl
    where
      inner : (t : Bool) → ltb at version1.frame.most ≡ t → entry_at format s (cond t (at + 1) at) ≡ entry_at format s (at + 1)
      inner true e = refl
      inner false e =
          let h = ltb-false at version1.frame.most e in
          let m = short.most in
          entry-by format s at (past-most at (at + 1) (omega arith) (omega arith)) ∙ sym (entry-by format s (at + 1) refl)

version1-short : Short version1.frame
version1-short = record { sensible = version1-sensible; most = omega arith }

short-by : (version : ℕ) → Short (format_by version).frame
unfolding format_by
short-by version = inner (eqb version version2.frame.version)
  where
    inner : (t : Bool) → Short (cond t version2 version1_told).frame
    inner true = record { sensible = version2-sensible; most = omega arith }
    inner false = version1-short

-- of a version 1 reader, and of a reader of both versions
pub moved_on : (s : List ℕ) (at : ℕ) → entry_at version1 s (next_place at) ≡ entry_at version1 s (at + 1)
moved_on = moved version1 version1-short

pub moved-on-both : (s : List ℕ) (at : ℕ) → entry_at (both s) s (next_place at) ≡ entry_at (both s) s (at + 1)
moved-on-both s = moved (both s) (short-by (version_of s)) s

-- ---- a reader's book and place determine it

pub reader-determined : (s : Bor (List ℕ)) (at : ℕ) (r q : BookReader) →
    (r.book ≡ s) × (r.place ≡ at) → (q.book ≡ s) × (q.place ≡ at) → r ≡ q
reader-determined s at r q a b = λ i. record { book = (a.0 ∙ sym b.0) i; place = (a.1 ∙ sym b.1) i }

pub any-reader-determined : (s : Bor (List ℕ)) (at : ℕ) (r q : AnyBookReader) →
    (r.book ≡ s) × (r.place ≡ at) → (q.book ≡ s) × (q.place ≡ at) → r ≡ q
any-reader-determined s at r q a b = λ i. record { book = (a.0 ∙ sym b.0) i; place = (a.1 ∙ sym b.1) i }
