-- The tests of a sum of days, in the order of the definition: does it fit 32 bits, then is it in range. Assumes nothing.
use mathlib.Core.Path.{◌≡◌}
use mathlib.Core.Bool.{true}
use Prim.Native.Nat.{ℕ, ◌+◌, ◌≤◌, ◌<◌}
use native.Mathlib.Omega.{arith}
use lib.IntN.{pos, sub_ℕ}
use lib.Signed.{le_z}
use Rattle.sign.proofs.Laws.{ints, yes_le, no_le}
use Rattle.rules.specs.Words.{minus}
use Rattle.rules.specs.Refusals.{Gives, Refused, sum_overflows, out_of_range}
use Rattle.rules.specs.Days.{day_fields, summed}
use Rattle.rules.proofs.OnDays.DayLaws.{summed-in}

module _ (u d h : ℕ) where
  low : (n : ℕ) → d ≤ u + n → le_z (minus n) (sub_ℕ u d) ≡ true
  low n p = yes_le (minus n) (sub_ℕ u d) (simp ints (omega arith))

  high : (n : ℕ) → u ≤ d + n → le_z (sub_ℕ u d) (pos n) ≡ true
  high n p = yes_le (sub_ℕ u d) (pos n) (simp ints (omega arith))

  pub in-range : d ≤ u + 11960684 → u ≤ d + 11960319 → summed (sub_ℕ u d) h ≡ Gives (day_fields (sub_ℕ u d) h)
  in-range p q = summed-in (sub_ℕ u d) h (low 11960684 p) (high 11960319 q)

  pub overflow-low : u + 2147483648 < d → summed (sub_ℕ u d) h ≡ Refused sum_overflows
  unfolding summed
  overflow-low p = rw (no_le (minus 2147483648) (sub_ℕ u d) (simp ints (omega arith)))

  pub overflow-high : d + 2147483647 < u → summed (sub_ℕ u d) h ≡ Refused sum_overflows
  unfolding summed
  overflow-high p = rw (low 2147483648 (omega arith), no_le (sub_ℕ u d) (pos 2147483647) (simp ints (omega arith)))

  pub out-low : d ≤ u + 2147483648 → u + 11960684 < d → summed (sub_ℕ u d) h ≡ Refused out_of_range
  unfolding summed
  out-low p q =
      rw (low 2147483648 p, high 2147483647 (omega arith), no_le (minus 11960684) (sub_ℕ u d) (simp ints (omega arith)))

  pub out-high : u ≤ d + 2147483647 → d + 11960319 < u → summed (sub_ℕ u d) h ≡ Refused out_of_range
  unfolding summed
  out-high p q =
      rw (
        low 2147483648 (omega arith),
        high 2147483647 p,
        low 11960684 (omega arith),
        no_le (sub_ℕ u d) (pos 11960319) (simp ints (omega arith)),
      )
