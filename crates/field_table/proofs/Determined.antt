-- Each answer is determined: two that a contract allows are equal, since the view that the contract names can be read back.
-- Assumes nothing.
use Rattle.std.proofs.Common.{◌≡◌, cond, refl, ap}
use Rattle.rules.proofs.OnRefusals.Determined.{Determines}
use Rattle.requests.specs.FieldTable as T
use Rattle.kinds.specs.declared.Kind.{Kind}
use Rattle.kinds.proofs.Determined.{packed_of, kind_back, kind-back}
use Rattle.refusals.proofs.Determined.{result-determined}
use Rattle.field_table.specs.declared.Entry.{Entry}
use Rattle.field_table.specs.declared.Looked.{Looked}
use Rattle.field_table.specs.declared.Looked.TheVariants as L
use Rattle.field_table.specs.Views.{Bits, declared_as, bits_in, checked_as, changed_as, entry_as, looked_as}

pub checked-determined : Determines checked_as
checked-determined = result-determined (λ n. n) (λ n. n) (λ _. refl)

pub changed-determined : Determines changed_as
changed-determined = result-determined (λ n. n) (λ n. n) (λ _. refl)

-- ---- an entry and a lookup, by their kinds

abbrev entry_back : T.Declared → Entry
entry_back d = record { field = d.key; kind = kind_back d.kind }

entry-back : (e : Entry) → entry_back (declared_as e) ≡ e
entry-back e = ap (λ (k : Kind). record { field = e.field; kind = k }) (kind-back e.kind)

pub entry-determined : Determines entry_as
entry-determined = result-determined declared_as entry_back entry-back

abbrev looked_back : Bits → Looked
looked_back b = cond b.guessed (L.Guessed (kind_back b.kind) (packed_of b.date)) (L.Declared (kind_back b.kind) (packed_of b.date))

looked-back : (r : Looked) → looked_back (bits_in r) ≡ r
looked-back (L.Declared k d) = ap (λ (j : Kind). L.Declared j d) (kind-back k)
looked-back (L.Guessed k d) = ap (λ (j : Kind). L.Guessed j d) (kind-back k)

pub looked-determined : Determines looked_as
looked-determined = result-determined bits_in looked_back looked-back
