-- A count of time, whatever it counts: the number of a date, the date of a number, and the range of the numbers that have a date. What
-- follows of sums and differences is said here once, for days and, by #111 of document 02, for hours. Assumes nothing.
use mathlib.Core.Path.{◌≡◌, refl, sym, subst, ap, ◌∙◌}
use mathlib.Core.Bool.{Bool, true, false, cond, ◌&&◌}
use Prim.Native.Nat.{ℕ, zero, suc, ◌+◌, ◌*◌, ◌≤◌, ◌<◌}
use native.Mathlib.Nat.{mul-pos}
use native.Mathlib.Omega.{arith}
use borrow.Author.Tests.{ltb-true, ltb-false}
use lib.Dec.{T, ltb}
use lib.IntN.{ℤ, pos, negsuc, neg_ℤ, ◌+ℤ◌, ◌-ℤ◌, ◌*ℤ◌}
use lib.Signed.{le_z}
use Rattle.sign.specs.Halves.{up, dn}
use Rattle.sign.proofs.Laws.{same, ints, one_side, le-true, yes_le, no_le, yes_lt, no_lt}
use Rattle.rules.specs.Words.{minus, fits32}
use Rattle.rules.specs.Refusals.{Answer, Gives, Refused, ◌then◌, demand, given, sum_overflows, out_of_range}
use Rattle.rules.specs.Kinds.{Fields}
use Rattle.rules.specs.Days.{date_within, Order, Before, Same, After, by_z, by_n}

-- ---- which numbers have a date

-- in the range from -low to high
abbrev pub InRange : ℕ → ℕ → ℤ → Type 0
InRange low high n = (dn n ≤ up n + low) × (up n ≤ dn n + high)

module _ (low high : ℕ) (l : low ≤ 2147483648) (u : high ≤ 2147483647) (date : ℤ → Fields) (n : ℤ) where
  pub range_gives : InRange low high n → date_within low high date n ≡ Gives (date n)
  range_gives r =
      rw (
        yes_le (minus 2147483648) n (omega (arith, r.0)),
        yes_le n (pos 2147483647) (omega (arith, r.1)),
        yes_le (minus low) n (simp ints (omega (arith, r.0))),
        yes_le n (pos high) (omega (arith, r.1)),
      )

  -- the two refusals, each on both sides
  pub overflows-low : up n + 2147483648 < dn n → date_within low high date n ≡ Refused sum_overflows
  overflows-low p = rw (no_le (minus 2147483648) n (omega arith))

  pub overflows-high : dn n + 2147483647 < up n → date_within low high date n ≡ Refused sum_overflows
  overflows-high p = rw (yes_le (minus 2147483648) n (omega arith), no_le n (pos 2147483647) (omega arith))

  pub outside_low : dn n ≤ up n + 2147483648 → up n + low < dn n → date_within low high date n ≡ Refused out_of_range
  outside_low p q =
      rw (
        yes_le (minus 2147483648) n (omega arith),
        yes_le n (pos 2147483647) (omega arith),
        no_le (minus low) n (simp ints (omega arith)),
      )

  pub outside_high : up n ≤ dn n + 2147483647 → dn n + high < up n → date_within low high date n ≡ Refused out_of_range
  outside_high p q =
      rw (
        yes_le (minus 2147483648) n (omega arith),
        yes_le n (pos 2147483647) (omega arith),
        yes_le (minus low) n (simp ints (omega arith)),
        no_le n (pos high) (omega arith),
      )

module _ (low high : ℕ) (date : ℤ → Fields) (n : ℤ) where
  -- a date is given in the range alone
  pub given-range : given (date_within low high date n) ≡ true → InRange low high n
  given-range e = by (fits32 n) (le_z (minus low) n) (le_z n (pos high)) refl refl e
    where
      by : (t a b : Bool) → le_z (minus low) n ≡ a → le_z n (pos high) ≡ b →
          given (demand t 5 (demand (a && b) 6 (Gives (date n)))) ≡ true → InRange low high n
      by true true true p q e =
          let l = simp ints at (le-true (minus low) n p) in let u = le-true n (pos high) q in omega arith
      by true true false p q e = absurd (subst T (sym e) tt)
      by true false b p q e = absurd (subst T (sym e) tt)
      by false a b p q e = absurd (subst T (sym e) tt)

-- ---- sums

-- a number and the difference to another
pub add-gap : (a b : ℤ) → a +ℤ (b -ℤ a) ≡ b
add-gap a b = let o = one_side a in let q = one_side b in same _ _ (simp ints (omega arith))

module _ (low high : ℕ) (l : low ≤ 2147483648) (u : high ≤ 2147483647) (date : ℤ → Fields) (n : ℤ) where
  -- the date that a sum gives is the one of its number
  pub sum-gives : (g : Fields) → date_within low high date n ≡ Gives g → InRange low high n × (date n ≡ g)
  sum-gives g e =
      let r = given-range low high date n (ap given e) in
      let q : Gives (date n) ≡ Gives g = sym (range_gives low high l u date n r) ∙ e in (r, cc)

-- ---- the sign of a difference

-- the order that a difference's sign tells: a positive one, that the first date is before the second
abbrev pub sign_order : ℤ → Order
sign_order (pos zero) = Same
sign_order (pos (suc n)) = Before
sign_order (negsuc n) = After

-- that of the two numbers
pub sign-is : (a b : ℤ) → sign_order (b -ℤ a) ≡ by_z a b Same
sign-is a b = by (b -ℤ a) refl
  where
    by : (z : ℤ) → b -ℤ a ≡ z → sign_order z ≡ by_z a b Same
    by (pos zero) e =
        let u = simp ints at (ap up e) in let d = simp ints at (ap dn e) in
        rw (no_lt a b (omega arith), no_lt b a (omega arith))
    by (pos (suc n)) e = let u = simp ints at (ap up e) in rw (yes_lt a b (omega arith))
    by (negsuc n) e = let d = simp ints at (ap dn e) in rw (no_lt a b (omega arith), yes_lt b a (omega arith))

-- a number and its multiple have the same sign
pub sign-times : (k : ℕ) → 1 ≤ k → (z : ℤ) → sign_order (pos k *ℤ z) ≡ sign_order z
sign-times k h (pos zero) = let e : k * 0 ≡ 0 = omega arith in ap (λ (n : ℕ). sign_order (pos n)) e
sign-times k h (pos (suc n)) = by (k * suc n) (mul-pos h (omega arith))
  where
    by : (m : ℕ) → 0 < m → sign_order (pos m) ≡ Before
    by zero l = absurd (omega arith)
    by (suc m) l = refl
sign-times k h (negsuc n) = by (k * suc n) (mul-pos h (omega arith))
  where
    by : (m : ℕ) → 0 < m → sign_order (neg_ℤ (pos m)) ≡ After
    by zero l = absurd (omega arith)
    by (suc m) l = refl

-- integers in the order of naturals that lie as far above them
pub shifted-order : (c : ℕ) (a b : ℤ) (m n : ℕ) (x : Order) → m + dn a ≡ up a + c → n + dn b ≡ up b + c → by_z a b x ≡ by_n m n x
shifted-order c a b m n x p q = by (ltb m n) (ltb n m) refl refl
  where
    by : (s t : Bool) → ltb m n ≡ s → ltb n m ≡ t → by_z a b x ≡ cond s Before (cond t After x)
    by true t i j = let l = ltb-true m n i in rw (yes_lt a b (omega arith))
    by false true i j = let l = ltb-true n m j in rw (no_lt a b (omega arith), yes_lt b a (omega arith))
    by false false i j = let l = ltb-false m n i in let r = ltb-false n m j in rw (no_lt a b (omega arith), no_lt b a (omega arith))
