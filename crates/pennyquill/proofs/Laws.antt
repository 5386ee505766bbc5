-- The boundary's laws: a kind by its code, and a date's number handed in again. Assumes nothing.
use mathlib.Core.Path.{◌≡◌, sym, ap, ◌∙◌}
use mathlib.Core.Bool.{true}
use Prim.Native.Nat.{ℕ, ◌/◌, ◌%◌, ◌<◌}
use native.Mathlib.Omega.{arith}
use Rattle.rules.specs.Refusals.{Answer, Gives}
use Rattle.rules.specs.Kinds.{Kind, Fields, Stored, of_kind, word_of, mark_allowed, stored_with, handed}
use Rattle.rules.specs.Book.{kind_code, kind_of_code, twos_complement, entry_for}
use Rattle.rules.proofs.OnKinds.KindLaws.{fit}
use Rattle.rules.proofs.OnKinds.PackLaws.{marked-back, word_fits}
use Rattle.rules.proofs.OnBook.EntryLaws.{code-back, twos_fit, year-back}
use Rattle.std.specs.Prelude.{Option}
use Rattle.kinds.specs.declared.Kind.{Kind as CodeKind}
use Rattle.requests.specs.Second.{field_entry_for}
use Rattle.codes.specs.Views.{coded_as, date_number}
use Rattle.pennyquill.specs.Boundary.{date_in}

-- ---- a kind by its code

-- what the code's view says of the answer that it is matched with
pub by_code : {x : Answer Kind} {r v : Option CodeKind} → coded_as r ≡ x → r ≡ v → x ≡ coded_as v
by_code e told = sym e ∙ ap coded_as told

-- the record of a date is by the kind
pub entry-code : (code : ℕ) {k : Kind} (d : Stored) → kind_of_code code ≡ Gives k → entry_for code d ≡ entry_for (kind_code k) d
unfolding entry_for
entry-code code {k = k} d e = rw (e, code-back k)

pub field-entry-code : (code : ℕ) {k : Kind} (field : ℕ) (d : Stored) → kind_of_code code ≡ Gives k → field_entry_for code field d ≡ field_entry_for (kind_code k) field d
unfolding field_entry_for
field-entry-code code {k = k} field d e = rw (e, code-back k)

-- ---- a date's number

-- what one function hands out as a date of a kind, with its mark, the next takes as that date
pub number-back : (k : Kind) (mark : ℕ) (f : Fields) → mark < 4 → mark_allowed mark ≡ true → of_kind k f ≡ true →
    handed k (date_in (date_number (stored_with mark f))) ≡ Gives f
number-back k mark f m a p =
    let t = fit k f p in
    let y = twos_fit f.year t.year-high t.year-low in
    let w = word_fits k mark f m p in
    let n = date_number (stored_with mark f) in
    let high : n / 65536 ≡ twos_complement f.year = omega arith in
    let low : n % 65536 ≡ word_of mark f = omega arith in
    rw (high, low, year-back f.year t.year-high t.year-low) (marked-back k mark f m a p)
