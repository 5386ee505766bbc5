-- The answer is determined: two that the contract allows, which holds for every year, are equal. Assumes nothing.
use mathlib.Core.Path.{◌≡◌, refl}
use lib.IntN.{ℤ, pos}
use Rattle.rules.specs.Refusals.{Answer}
use Rattle.rules.specs.Kinds.{Fields}
use Rattle.rules.proofs.OnRefusals.Determined.{Determines, DeterminesEach, determined, determined-at, back_one}
use Rattle.std.specs.Prelude.{Option, Some, None}
use Rattle.dotted.specs.declared.Parts.{Parts}
use Rattle.dotted.specs.Views.{parts_as}

parts_back : Answer Fields → Option Parts
parts_back = back_one (λ (f : Fields). Some (record { month = f.month; day = f.day; hour = f.hour })) None

parts-of-year : (y : ℤ) → Determines (parts_as y)
unfolding parts_back
parts-of-year y = determined (parts_as y) parts_back (λ r. elim r as (λ k. parts_back (parts_as y k) ≡ k) [ Some p ↦ refl | None ↦ refl ])

pub parts-determined : DeterminesEach parts_as
parts-determined = determined-at parts_as (pos 0) (parts-of-year (pos 0))
