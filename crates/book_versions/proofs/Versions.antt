-- The operations over the size at version 2's numbers, and those of both versions by the version byte. Assumes nothing.
use mathlib.Core.Path.{◌≡◌, sym, ap, ◌∙◌}
use mathlib.Core.Bool.{Bool, true, false}
use mathlib.Core.List.{List}
use Prim.Native.Nat.{ℕ, ◌≤◌, ◌<◌}
use native.Mathlib.Omega.{arith}
use borrow.Author.Tests.{le-leb, eqb-true, eqb-false}
use lib.Dec.{eqb}
use Rattle.rules.specs.Refusals.{Answer, Gives, Refused, given, not_of_kind}
use Rattle.rules.specs.Kinds.{handed}
use Rattle.rules.specs.Book.{Format, version_of, check, entry_at, append_answer, append_buffer, kind_code, version1}
use Rattle.rules.proofs.OnKinds.PackLaws.{handed-by}
use Rattle.rules.proofs.OnBook.EntryLaws.{code-back}
use Rattle.requests.specs.Second.{FieldEntry, most_field, version2, field_entry_bytes, field_entry_for}
use Rattle.requests.specs.Both.{both}
use Rattle.requests.proofs.OnSecond.FieldEntryLaws.{field-entry-for}
use Rattle.requests.proofs.OnBoth.BothLaws.{both-two, check-other, entry_other}
use Rattle.kinds.specs.declared.Kind.{Kind}
use Rattle.kinds.specs.declared.Packed.{Packed}
use Rattle.kinds.specs.Views.{kind_of, bits_of}
use Rattle.book.specs.Views.{book_of, in_bits}
use Rattle.book.proofs.Laws.{version2-is}

-- ---- version 2

module _ (s : List ℕ) where
  pub check-two : check (book_of 7 4096 2 false) s ≡ check version2 s
  check-two = ap (λ (f : Format FieldEntry). check f s) version2-is

  pub entry-two : (i : ℕ) → entry_at (book_of 7 4096 2 false) s i ≡ entry_at version2 s i
  entry-two i = ap (λ (f : Format FieldEntry). entry_at f s i) version2-is

  module _ (x : Answer (List ℕ)) where
    pub append-two : append_answer (book_of 7 4096 2 false) x s ≡ append_answer version2 x s
    append-two = ap (λ (f : Format FieldEntry). append_answer f x s) version2-is

    pub buffer-two : append_buffer (book_of 7 4096 2 false) x s ≡ append_buffer version2 x s
    buffer-two = ap (λ (f : Format FieldEntry). append_buffer f x s) version2-is

-- the record of a date handed in: a field number of 16 bits is one
module _ (k : Kind) (field : ℕ) (d : Packed) (h : field < 65536) where
  pub entry-given : given (handed (kind_of k) (bits_of d)) ≡ true → field_entry_for (kind_code (kind_of k)) field (bits_of d) ≡ Gives (field_entry_bytes (kind_of k) field (bits_of d))
  entry-given g = field-entry-for (kind_of k) field (bits_of d) (omega arith) g

  pub entry-not : given (handed (kind_of k) (bits_of d)) ≡ false → field_entry_for (kind_code (kind_of k)) field (bits_of d) ≡ Refused not_of_kind
  unfolding field_entry_for
  entry-not g = rw (code-back (kind_of k), le-leb field most_field (let z : field ≤ most_field = omega arith in z), handed-by (kind_of k) (bits_of d) g)

-- ---- either version, by what the test of the version byte says

module _ (s : List ℕ) {t : Bool} (e : t ≡ eqb (version_of s) version2.frame.version) where
  module _ (is : t ≡ true) where
    two : both s ≡ version2
    two = both-two s (eqb-true (version_of s) version2.frame.version (sym e ∙ is))

    pub check-as-two : check version2 s ≡ check (both s) s
    check-as-two = ap (λ (f : Format FieldEntry). check f s) (sym two)

    pub entry-as-two : (i : ℕ) → entry_at version2 s i ≡ entry_at (both s) s i
    entry-as-two i = ap (λ (f : Format FieldEntry). entry_at f s i) (sym two)

  module _ (not : t ≡ false) where
    other : version_of s ≡ version2.frame.version → ⊥
    other = eqb-false (version_of s) version2.frame.version (sym e ∙ not)

    pub check-as-one : check version1 s ≡ check (both s) s
    check-as-one = sym (check-other s other)

    pub entry-as-one : (i : ℕ) → in_bits (entry_at version1 s i) ≡ entry_at (both s) s i
    entry-as-one i = sym (entry_other s other i)
