-- The answer is determined: two that a contract allows are equal, since the view that the contract names can be read back.
-- Assumes nothing.
use Rattle.std.specs.Prelude.{refl}
use Rattle.rules.specs.Refusals.{not_of_kind}
use Rattle.rules.proofs.OnRefusals.Determined.{Determines}
use Rattle.refusals.proofs.Determined.{option-determined}
use Rattle.hour_count.specs.Views.{counted_as}

pub counted-determined : Determines counted_as
counted-determined = option-determined (λ n. n) (λ n. n) (λ n. refl) not_of_kind
