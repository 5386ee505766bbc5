-- The answer is determined: two that a contract allows are equal, since the view that the contract names can be read back.
-- Assumes nothing.
use Rattle.std.specs.Prelude.{refl}
use Rattle.rules.proofs.OnRefusals.Determined.{Determines}
use Rattle.refusals.proofs.Determined.{result-determined}
use Rattle.kinds.specs.Views.{bits_of}
use Rattle.kinds.proofs.Determined.{packed_of}
use Rattle.by_kind.specs.Views.{parsed_as}

pub parsed-determined : Determines parsed_as
parsed-determined = result-determined bits_of packed_of (λ d. refl)
