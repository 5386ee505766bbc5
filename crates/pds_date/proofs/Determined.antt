-- Each answer is determined, where the bits of a kind's dates can be read back. Assumes nothing.
use Rattle.std.specs.Prelude.{◌≡◌}
use Rattle.std.proofs.Common.{ap}
use Rattle.rules.specs.Refusals.{not_number, not_of_kind}
use Rattle.rules.specs.Kinds.{Stored}
use Rattle.rules.proofs.OnRefusals.Determined.{Determines}
use Rattle.refusals.proofs.Determined.{result-determined, option-determined}
use Rattle.pds_date.specs.declared.Guessed.{Guessed}
use Rattle.pds_date.specs.Views.{made_as, parsed_as, decoded_as, guessed_as, summed_as}

module _ {T : Type 0} (bits : T → Stored) (dated : Stored → T) (back : (d : T) → dated (bits d) ≡ d) where
  pub made-determined : Determines (made_as bits)
  made-determined = option-determined bits dated back not_of_kind

  pub parsed-determined : Determines (parsed_as bits)
  parsed-determined = result-determined bits dated back

  pub decoded-determined : Determines (decoded_as bits)
  decoded-determined = option-determined bits dated back not_number

  abbrev guess : T → Guessed T
  guess d = record { date = d }

  pub guessed-determined : Determines (guessed_as bits)
  guessed-determined = option-determined (λ g. bits g.date) (λ d. guess (dated d)) (λ g. ap guess (back g.date)) not_number

  pub summed-determined : Determines (summed_as bits)
  summed-determined = result-determined bits dated back
