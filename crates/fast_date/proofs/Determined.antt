-- The answer is determined: two that the contract allows are equal, since its view can be read back. Assumes nothing.
use mathlib.Core.Path.{◌≡◌, refl}
use Rattle.std.specs.Prelude.{Option, Some, None}
use Rattle.rules.proofs.OnRefusals.Determined.{Determines, determined, back_one}
use Rattle.kinds.specs.declared.Packed.{Packed}
use Rattle.kinds.proofs.Determined.{packed_of}
use Rattle.fast_date.specs.Fast.{Quick, Answers, Silent, quick}

abbrev quick_back : Quick → Option (Option Packed)
quick_back (Answers a) = Some (back_one (λ d. Some (packed_of d)) None a)
quick_back Silent = None

quick-back : (r : Option (Option Packed)) → quick_back (quick r) ≡ r
quick-back (Some (Some d)) = refl
quick-back (Some None) = refl
quick-back None = refl

pub quick-determined : Determines quick
quick-determined = determined quick quick_back quick-back
