-- Each answer is determined: two that a contract allows are equal, since the view that the contract names can be read back.
-- Assumes nothing.
use Rattle.std.specs.Prelude.{◌≡◌, refl, Option, Some, None}
use Rattle.std.proofs.Common.{ap}
use Rattle.rules.proofs.OnRefusals.Determined.{Determines, determined, back_one}
use Rattle.rules.specs.Refusals.{Answer}
use Rattle.rules.specs.Kinds as K
use Rattle.kinds.specs.declared.Kind.{Kind}
use Rattle.kinds.proofs.Determined.{kind_back, kind-back}
use Rattle.codes.specs.Views.{lettered_as, coded_as}

abbrev back : Answer K.Kind → Option Kind
back = back_one (λ k. Some (kind_back k)) None

letter-back : (r : Option Kind) → back (lettered_as r) ≡ r
letter-back (Some k) = ap Some (kind-back k)
letter-back None = refl

pub lettered-determined : Determines lettered_as
lettered-determined = determined lettered_as back letter-back

code-back : (r : Option Kind) → back (coded_as r) ≡ r
code-back (Some k) = ap Some (kind-back k)
code-back None = refl

pub coded-determined : Determines coded_as
coded-determined = determined coded_as back code-back
