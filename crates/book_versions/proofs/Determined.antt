-- A move's answer is determined: two that a contract allows are equal, since the view that the contract names can be read back.
-- Assumes nothing.
use Rattle.std.proofs.Common.{refl}
use Rattle.rules.proofs.OnRefusals.Determined.{Determines}
use Rattle.refusals.proofs.Determined.{result-determined}
use Rattle.book_versions.specs.Recast.{moved_as}

pub moved-determined : Determines moved_as
moved-determined = result-determined (λ n. n) (λ n. n) (λ _. refl)
