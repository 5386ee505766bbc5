-- A number zero-filled to any width: its digits, and their value; and the years of the ISO and the exchange text read back. Assumes nothing.
use mathlib.Core.Path.{◌≡◌, refl, ap, ◌∙◌}
use mathlib.Core.Bool.{Bool, true, false, cond}
use mathlib.Core.List.{List, ◌++◌}
use Prim.Native.Nat.{ℕ, zero, suc, ◌-◌, ◌^◌, ◌≤◌, ◌<◌}
use native.Mathlib.Omega.{arith}
use lib.Dec.{leb}
use lib.IntN.{ℤ, pos, negsuc}
use lib.ListN.{length, replicate}
use Rattle.sign.specs.Halves.{up, dn}
use Rattle.rules.specs.Words.{minus, bytes}
use Rattle.rules.specs.Refusals.{Gives}
use Rattle.rules.specs.Spelling.{digit, decimal, filled, iso_year, exchange_year}
use Rattle.rules.specs.Text.{Read, decimal_value, natural, signed, leading}
use Rattle.rules.proofs.OnSpelling.DecimalLaws.{digits-least, filled-length}
use Rattle.rules.proofs.OnSpelling.DigitLaws.{OnlyDigits, next, no_digit, decimal-digits, decimal-value, digits-front, digits-after, lead-digits}

zeros-digits : {s : List ℕ} (m : ℕ) → OnlyDigits s → OnlyDigits (replicate m (digit 0) ++ s)
zeros-digits zero d = d
zeros-digits (suc m) d = next refl (zeros-digits m d)

pub zeros-value : (m : ℕ) (s : List ℕ) → decimal_value (replicate m (digit 0) ++ s) ≡ decimal_value s
unfolding decimal_value
zeros-value zero s = refl
zeros-value (suc m) s = let e = zeros-value m s in omega arith

pub filled-digits : (w n : ℕ) → n < 10 ^ 20 → OnlyDigits (filled w n)
unfolding filled
filled-digits w n h = zeros-digits (w - length (decimal n)) (decimal-digits n h)

pub filled-value : (w n : ℕ) → n < 10 ^ 20 → decimal_value (filled w n) ≡ n
unfolding filled
filled-value w n h = zeros-value (w - length (decimal n)) (decimal n) ∙ decimal-value n h

pub filled-least : (w n : ℕ) → 1 ≤ length (filled w n)
filled-least w n = let d = digits-least n in let e = filled-length w n in omega arith

-- ---- zero-filled digits, alone or after a sign, are a text's leading number

module _ (w n : ℕ) (r : List ℕ) (h : n < 10 ^ 20) (e : no_digit r ≡ true) where
  lead-unsigned : leading (filled w n ++ r) ≡ Gives (record { value = pos n; rest = r })
  lead-unsigned = rw (lead-digits r (filled-digits w n h) (filled-least w n) e, filled-value w n h)

  natural-filled : natural (filled w n ++ r) ≡ record { value = n; rest = r }
  natural-filled = rw (digits-front r (filled-digits w n h) e, digits-after r (filled-digits w n h) e, filled-value w n h)

  lead-minus : leading (bytes "-" ++ filled w n ++ r) ≡ Gives (record { value = minus n; rest = r })
  unfolding leading
  lead-minus = ap (λ (x : Read ℕ). Gives (signed minus x)) natural-filled

  lead-plus : leading (bytes "+" ++ filled w n ++ r) ≡ Gives (record { value = pos n; rest = r })
  unfolding leading
  lead-plus = ap (λ (x : Read ℕ). Gives (signed pos x)) natural-filled

-- the year of the ISO text is the text's leading number
pub lead-iso : (y : ℤ) (r : List ℕ) → dn y ≤ 32768 → up y ≤ 32767 → no_digit r ≡ true →
    leading (iso_year y ++ r) ≡ Gives (record { value = y; rest = r })
lead-iso (pos n) r a b e = lead-unsigned 4 n r (omega arith) e
lead-iso (negsuc n) r a b e = lead-minus 3 (suc n) r (omega arith) e

-- and that of the exchange text likewise
pub lead-exchange : (y : ℤ) (r : List ℕ) → dn y ≤ 32768 → up y ≤ 32767 → no_digit r ≡ true →
    leading (exchange_year y ++ r) ≡ Gives (record { value = y; rest = r })
lead-exchange (pos n) r a b e = by (leb n 9999)
  where
    by : (t : Bool) → leading (cond t (filled 4 n) (bytes "+" ++ filled 5 n) ++ r) ≡ Gives (record { value = pos n; rest = r })
    by true = lead-unsigned 4 n r (omega arith) e
    by false = lead-plus 5 n r (omega arith) e
lead-exchange (negsuc n) r a b e = lead-minus 5 (suc n) r (omega arith) e
