-- A report's answer is determined: two that a contract allows are equal, since the view that the contract names can be read back.
-- Assumes nothing.
use Rattle.std.proofs.Common.{refl}
use Rattle.rules.proofs.OnRefusals.Determined.{Determines}
use Rattle.refusals.proofs.Determined.{result-determined}
use Rattle.gap_report.specs.Answers.{reported_as}

pub reported-determined : Determines reported_as
reported-determined = result-determined (λ n. n) (λ n. n) (λ _. refl)
