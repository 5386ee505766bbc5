-- The answer is determined: two that a contract allows are equal, since the view that the contract names can be read back.
-- Assumes nothing.
use Rattle.std.specs.Prelude.{refl}
use Rattle.rules.proofs.OnRefusals.Determined.{Determines}
use Rattle.refusals.proofs.Determined.{result-determined}
use Rattle.formatter.specs.Views.{spelled_as}

pub spelled-determined : Determines spelled_as
spelled-determined = result-determined (λ n. n) (λ n. n) (λ n. refl)
