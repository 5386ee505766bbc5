-- Each answer is determined: two that its contract allows are equal. Assumes nothing.
use mathlib.Core.Path.{◌≡◌, refl, sym, ◌∙◌}
use Prim.Native.Nat.{ℕ}
use Rattle.rules.proofs.OnRefusals.Determined.{Determines, determined, back_one}
use Rattle.julian.specs.declared.MonthDay.{MonthDay}
use Rattle.std.specs.Prelude.{Some, None}
use Rattle.julian.specs.First.{first_day_as}

pub answer-determined : Determines first_day_as
answer-determined = determined first_day_as (back_one Some None) (λ r. elim r as (λ k. (back_one Some None) (first_day_as k) ≡ k) [ Some d ↦ refl | None ↦ refl ])

-- the contract has an equation for each field
pub month-day-determined : (r s : MonthDay) (m d : ℕ) → (r.month ≡ m) × (r.day ≡ d) → (s.month ≡ m) × (s.day ≡ d) → r ≡ s
month-day-determined r s m d e f = λ i. record { month = (e.0 ∙ sym f.0) i; day = (e.1 ∙ sym f.1) i }
