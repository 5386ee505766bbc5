-- Numbers that cannot pass the guess, by their hour or by the first year that can pass. Assumes nothing.
use mathlib.Core.Path.{◌≡◌, refl, sym, subst}
use mathlib.Core.Bool.{Bool, true, false, and-false}
use Prim.Native.Nat.{◌%◌, ◌<◌}
use native.Mathlib.Omega.{arith}
use lib.Dec.{T}
use lib.IntN.{ℤ, pos, nat_abs}
use lib.Signed.{lt_z, le_z}
use borrow.Author.Tests.{ne_eqb}
use Rattle.sign.specs.Halves.{up}
use Rattle.sign.proofs.Laws.{ints, one_side, no_lt, no_le}
use Rattle.rules.specs.Words.{minus}
use Rattle.rules.specs.Refusals.{Gives, Refused, ◌then◌, demand, not_number}
use Rattle.rules.specs.Kinds.{Kind, kR, kD, kH, kU, kE, kV, Fields, with_hour}
use Rattle.rules.specs.Numbers.{on_day, hour_of, day_of, year_of, has_fields, number_fields, new_year, decoded_hour, decoded, guesses, guessed, guess_number}

module _ (s : ℤ) where
  abbrev found : Fields
  found = on_day (year_of s) (nat_abs (day_of s)) (nat_abs (hour_of s))

  -- a number is refused where its fields, if it has some, do not pass
  quiet : (k : Kind) → guesses k ≡ true → guessed k found ≡ false → guess_number k s ≡ Refused not_number
  unfolding guess_number number_fields
  quiet k a g = rw a (by (has_fields s))
    where
      by : (t : Bool) → (demand t not_number (Gives found) then λ f. demand (guessed k f) not_number (decoded k f)) ≡ Refused not_number
      by true = rw g
      by false = refl

  -- D and E: "year above -100", and an hour
  early-year : up s < 42932760 → lt_z (minus 100) (year_of s) ≡ false
  early-year h = no_lt (minus 100) (year_of s) (simp ints (omega (arith, one_side s)))

  pub hour-d : (up s % 24 ≡ 0 → ⊥) → guess_number kD s ≡ Refused not_number
  hour-d h =
      quiet kD refl (rw (ne_eqb (nat_abs (hour_of s)) 0 (simp ints (λ e. h (omega arith))), and-false (lt_z (minus 100) (year_of s))))

  pub hour-e : (up s % 2 ≡ 0 → ⊥) → guess_number kE s ≡ Refused not_number
  hour-e h =
      quiet kE refl (rw (ne_eqb (nat_abs (hour_of s) % 2) 0 (simp ints (λ e. h (omega (arith, one_side s)))), and-false (lt_z (minus 100) (year_of s))))

  -- H and V: no year before the one whose 1 January passes
  pub early-h : up s < 43791240 → guess_number kH s ≡ Refused not_number
  early-h h =
      quiet kH refl
      (rw (
        no_le (pos 1800) (year_of s) (simp ints (omega (arith, one_side s))),
        no_le (pos 1) (year_of s) (simp ints (omega (arith, one_side s))),
        no_le (minus 1) (year_of s) (simp ints (omega (arith, one_side s))),
        and-false (le_z (year_of s) (pos 1)),
        and-false (le_z (year_of s) (minus 1)),
        and-false (new_year 1 (with_hour found (decoded_hour kH found.hour))),
      ))

  pub early-v : up s < 43808760 → guess_number kV s ≡ Refused not_number
  early-v h =
      quiet kV refl
      (rw (
        no_lt (pos 1700) (year_of s) (simp ints (omega (arith, one_side s))),
        no_le (pos 1) (year_of s) (simp ints (omega (arith, one_side s))),
        and-false (le_z (year_of s) (pos 1)),
        and-false (new_year 0 found),
      ))

  -- no kind's guess takes a year before -99
  pub early : (k : Kind) → guesses k ≡ true → up s < 42932760 → guess_number k s ≡ Refused not_number
  early kR a h = absurd (subst T (sym a) tt)
  early kD a h = quiet kD a (rw (early-year h))
  early kH a h = early-h (omega (arith, h))
  early kU a h = absurd (subst T (sym a) tt)
  early kE a h = quiet kE a (rw (early-year h))
  early kV a h = early-v (omega (arith, h))
