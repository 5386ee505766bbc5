-- The answers are determined: two that a contract allows are equal, since the view that the contract names can be read back.
-- Assumes nothing.
use Rattle.std.specs.Prelude.{refl}
use Rattle.rules.proofs.OnRefusals.Determined.{Determines}
use Rattle.refusals.proofs.Determined.{result-determined}
use Rattle.listing.specs.Answers.{listed_as, lent_as}

pub listed-determined : Determines listed_as
listed-determined = result-determined (λ n. n) (λ n. n) (λ n. refl)

pub lent-determined : Determines lent_as
lent-determined = result-determined (λ n. n) (λ n. n) (λ n. refl)
