-- Each answer is determined: two that a contract allows are equal, since the view that the contract names can be read back.
-- Assumes nothing.
use Rattle.std.specs.Prelude.{refl}
use Rattle.rules.specs.Kinds.{Stored}
use Rattle.rules.proofs.OnRefusals.Determined.{Determines, determined}
use Rattle.kinds.proofs.Determined.{packed_of}
use Rattle.pds_date.proofs.Determined as dates
use Rattle.raw_date.specs.declared.RawDate.{RawDate}
use Rattle.raw_date.specs.Views.{bits, made_as, parsed_as, decoded_as}

abbrev dated : Stored → RawDate
dated d = record { raw = packed_of d }

pub bits-determined : Determines bits
bits-determined = determined bits dated (λ d. refl)

pub made-determined : Determines made_as
made-determined = dates.made-determined bits dated (λ d. refl)

pub parsed-determined : Determines parsed_as
parsed-determined = dates.parsed-determined bits dated (λ d. refl)

pub decoded-determined : Determines decoded_as
decoded-determined = dates.decoded-determined bits dated (λ d. refl)
