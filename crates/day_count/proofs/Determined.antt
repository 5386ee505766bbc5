-- Each answer is determined: two that a contract allows are equal, since the view that the contract names can be read back.
-- Assumes nothing.
use Rattle.std.specs.Prelude.{refl}
use Rattle.rules.specs.Refusals.{not_of_kind}
use Rattle.rules.proofs.OnRefusals.Determined.{Determines}
use Rattle.refusals.proofs.Determined.{result-determined, option-determined}
use Rattle.kinds.specs.Views.{bits_of}
use Rattle.kinds.proofs.Determined.{packed_of}
use Rattle.day_count.specs.Views.{summed_as, start_as, counted_as}

pub summed_as-determined : Determines summed_as
summed_as-determined = result-determined bits_of packed_of (λ d. refl)

pub started-determined : Determines start_as
started-determined = option-determined bits_of packed_of (λ d. refl) not_of_kind

pub counted-determined : Determines counted_as
counted-determined = option-determined (λ n. n) (λ n. n) (λ n. refl) not_of_kind
