-- Each answer is determined: two that a contract allows are equal, since the view that the contract names can be read back.
-- Assumes nothing.
use Rattle.std.specs.Prelude.{refl}
use Rattle.rules.specs.Kinds.{Stored}
use Rattle.rules.proofs.OnRefusals.Determined.{Determines, determined}
use Rattle.kinds.proofs.Determined.{packed_of}
use Rattle.pds_date.proofs.Determined as dates
use Rattle.date_hour.specs.declared.DateHour.{DateHour}
use Rattle.date_hour.specs.Views.{bits, made_as, parsed_as, decoded_as, guessed_as, summed_as}

abbrev dated : Stored → DateHour
dated d = record { raw = packed_of d }

pub bits-determined : Determines bits
bits-determined = determined bits dated (λ d. refl)

pub made-determined : Determines made_as
made-determined = dates.made-determined bits dated (λ d. refl)

pub parsed-determined : Determines parsed_as
parsed-determined = dates.parsed-determined bits dated (λ d. refl)

pub decoded-determined : Determines decoded_as
decoded-determined = dates.decoded-determined bits dated (λ d. refl)

pub guessed-determined : Determines guessed_as
guessed-determined = dates.guessed-determined bits dated (λ d. refl)

pub summed-determined : Determines summed_as
summed-determined = dates.summed-determined bits dated (λ d. refl)
