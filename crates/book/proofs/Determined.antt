-- Each answer is determined: two that a contract allows are equal, since the view that the contract names can be read back.
-- Assumes nothing.
use Rattle.std.proofs.Common.{◌≡◌, refl, ap}
use Rattle.rules.proofs.OnRefusals.Determined.{Determines}
use Rattle.requests.specs.Second.{FieldEntry}
use Rattle.kinds.specs.declared.Kind.{Kind}
use Rattle.kinds.proofs.Determined.{packed_of, kind_back, kind-back}
use Rattle.refusals.proofs.Determined.{result-determined}
use Rattle.book.specs.declared.Record.{Record}
use Rattle.book.specs.Views.{record_as, checked_as, found_as, appended_as}

pub checked-determined : Determines checked_as
checked-determined = result-determined (λ n. n) (λ n. n) (λ _. refl)

pub appended-determined : Determines appended_as
appended-determined = result-determined (λ n. n) (λ n. n) (λ _. refl)

-- ---- a record found, by its kind, its field number and its bits

abbrev pub record_back : FieldEntry → Record
record_back e = record { kind = kind_back e.kind; field = e.field; date = packed_of e.date }

pub record-back : (r : Record) → record_back (record_as r) ≡ r
record-back r = ap (λ (k : Kind). record { kind = k; field = r.field; date = r.date }) (kind-back r.kind)

pub found-determined : Determines found_as
found-determined = result-determined record_as record_back record-back
