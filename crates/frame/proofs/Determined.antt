-- Each answer is determined: two that a contract allows are equal, since the view that the contract names can be read back.
-- Assumes nothing.
use mathlib.Core.Path.{refl}
use Rattle.rules.proofs.OnRefusals.Determined.{Determines}
use Rattle.refusals.proofs.Determined.{result-determined}
use Rattle.frame.specs.Views.{framed_as, started_as}

pub started-determined : Determines started_as
started-determined = result-determined (λ _. 0) (λ _. tt) (λ _. refl)

pub framed-determined : Determines framed_as
framed-determined = result-determined (λ n. n) (λ n. n) (λ _. refl)
