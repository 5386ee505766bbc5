-- A number in decimal, digit by digit: its last digit, and its digits before; how many there are; zero-filled to a width.
-- Assumes nothing.
use mathlib.Core.Path.{◌≡◌, refl, sym, ap, ◌∙◌}
use mathlib.Core.Bool.{Bool, true, false, cond}
use mathlib.Core.List.{List, [], ◌∷◌, ◌++◌}
use Prim.Native.Nat.{ℕ, zero, suc, ◌+◌, ◌-◌, ◌/◌, ◌%◌, ◌^◌, ◌≤◌, ◌<◌}
use native.Mathlib.Nat.{pow-succ', lt_of_lt_of_le, pow-le-pow_right}
use native.Mathlib.Omega.{arith}
use lib.Dec.{lit<, leb, ltb}
use lib.ListN.{length, length-append, length-replicate, replicate}
use borrow.Author.Tests.{lt-ltb, le-ltb, ltb-true, ltb-false, leb-true, leb-false}
use Rattle.rules.specs.Spelling.{digit, decimal_in, decimal, filled}

-- one place more than the digits need adds nothing
enough : (k n : ℕ) → n < 10 ^ suc k → decimal_in (suc k) n ≡ decimal_in k n
unfolding decimal_in
enough zero n h = rw (lt-ltb n 10 h) (ap (λ (m : ℕ). digit m ∷ []) (omega arith))
enough (suc k) n h = ap (λ (l : List ℕ). cond (ltb n 10) (digit n ∷ []) (l ++ digit (n % 10) ∷ [])) (enough k (n / 10) (omega arith))

last-digit : (k n : ℕ) → 10 ≤ n → decimal_in (suc k) n ≡ decimal_in k (n / 10) ++ digit (n % 10) ∷ []
unfolding decimal_in
last-digit k n h = rw (le-ltb n 10 h)

pub one-digit : (n : ℕ) → n < 10 → decimal n ≡ digit n ∷ []
unfolding decimal decimal_in
one-digit n h = rw (lt-ltb n 10 h)

pub more-digits : (n : ℕ) → 10 ≤ n → n < 10 ^ 20 → decimal n ≡ decimal (n / 10) ++ digit (n % 10) ∷ []
unfolding decimal
more-digits n h k = last-digit 18 n h ∙ ap (λ (l : List ℕ). l ++ digit (n % 10) ∷ []) (sym (enough 18 (n / 10) (omega arith)))

pub two_digits : (n : ℕ) → 10 ≤ n → n < 100 → decimal n ≡ digit (n / 10) ∷ digit (n % 10) ∷ []
two_digits n h k = rw (more-digits n h (omega arith), one-digit (n / 10) (omega arith))

-- ---- what holds of one digit, and of a digit more, holds of each number

module _
    (P : ℕ → List ℕ → Type 0)
    (one : (n : ℕ) → n < 10 → P n (digit n ∷ []))
    (more : (n : ℕ) (l : List ℕ) → 10 ≤ n → P (n / 10) l → P n (l ++ digit (n % 10) ∷ []))
  where
    by-test : (n : ℕ) (l : List ℕ) (t : Bool) → ltb n 10 ≡ t → P (n / 10) l → P n (cond t (digit n ∷ []) (l ++ digit (n % 10) ∷ []))
    by-test n l true e p = one n (ltb-true n 10 e)
    by-test n l false e p = more n l (ltb-false n 10 e) p

    by-places : (k n : ℕ) → n < 10 ^ suc k → P n (decimal_in k n)
    unfolding decimal_in
    by-places zero n h = let e : n % 10 ≡ n = omega arith in rw e (one n h)
    by-places (suc k) n h = by-test n (decimal_in k (n / 10)) (ltb n 10) refl (by-places k (n / 10) (omega arith))

    pub by_digits : (n : ℕ) → n < 10 ^ 20 → P n (decimal n)
    unfolding decimal
    by_digits n h = by-places 19 n h

-- ---- how many digits

-- below 10 ^ (k + 1) at most k + 1
pub digits-most : (n : ℕ) → n < 10 ^ 20 → (k : ℕ) → n < 10 ^ suc k → length (decimal n) ≤ suc k
digits-most = by_digits (λ n l. (k : ℕ) → n < 10 ^ suc k → length l ≤ suc k) (λ n h k b. omega arith) more
  where
    more : (n : ℕ) (l : List ℕ) → 10 ≤ n → ((k : ℕ) → n / 10 < 10 ^ suc k → length l ≤ suc k) →
        (k : ℕ) → n < 10 ^ suc k → length (l ++ digit (n % 10) ∷ []) ≤ suc k
    more n l h p zero b = absurd (omega arith)
    more n l h p (suc k) b = let q = p k (omega arith) in rw length-append (omega arith)

-- one at least
places-least : (k n : ℕ) → 1 ≤ length (decimal_in k n)
unfolding decimal_in
places-least zero n = omega arith
places-least (suc k) n = split (ltb n 10)
  where
    split : (t : Bool) → 1 ≤ length (cond t (digit n ∷ []) (decimal_in k (n / 10) ++ digit (n % 10) ∷ []))
    split true = omega arith
    split false = rw length-append (omega arith)

pub digits-least : (n : ℕ) → 1 ≤ length (decimal n)
unfolding decimal
digits-least n = places-least 19 n

-- never too few: so many digits hold the number
pub digits-hold : (n : ℕ) → n < 10 ^ 20 → n < 10 ^ length (decimal n)
digits-hold = by_digits (λ n l. n < 10 ^ length l) (λ n h. h) more
  where
    more : (n : ℕ) (l : List ℕ) → 10 ≤ n → n / 10 < 10 ^ length l → n < 10 ^ length (l ++ digit (n % 10) ∷ [])
    more n l h p =
        let e : length (l ++ digit (n % 10) ∷ []) ≡ suc (length l) = rw length-append (omega arith) in
        rw (e, pow-succ' 10 (length l)) (omega arith)

-- from 10 ^ k on, and below 10 ^ (k + 1), just k + 1
pub digits-count : (k n : ℕ) → n < 10 ^ 20 → 10 ^ k ≤ n → n < 10 ^ suc k → length (decimal n) ≡ suc k
digits-count k n h a b = split (leb (length (decimal n)) k) refl
  where
    split : (t : Bool) → leb (length (decimal n)) k ≡ t → length (decimal n) ≡ suc k
    split true e =
        let less = lt_of_lt_of_le (digits-hold n h) (pow-le-pow_right (lit< tt) {j = k} (leb-true (length (decimal n)) k e)) in
        absurd (omega arith)
    split false e = let most = digits-most n h k b in let least = leb-false (length (decimal n)) k e in omega arith

-- one more than of the number without its last
pub digits-one-more : (n : ℕ) → 10 ≤ n → n < 10 ^ 20 → length (decimal n) ≡ length (decimal (n / 10)) + 1
digits-one-more n h b = rw (more-digits n h b, length-append)

-- ---- zero-filled

pub filled-length : (width n : ℕ) → length (filled width n) ≡ (width - length (decimal n)) + length (decimal n)
unfolding filled
filled-length width n = simp (length-append, length-replicate)

-- to two digits, below 100
pub filled-two : (n : ℕ) → n < 100 → filled 2 n ≡ digit (n / 10) ∷ digit (n % 10) ∷ []
unfolding filled
filled-two n h = split (ltb n 10) refl
  where
    split : (t : Bool) → ltb n 10 ≡ t → replicate (2 - length (decimal n)) (digit 0) ++ decimal n ≡ digit (n / 10) ∷ digit (n % 10) ∷ []
    split true e =
        let l = ltb-true n 10 e in let ten : 0 ≡ n / 10 = omega arith in let unit : n ≡ n % 10 = omega arith in
        rw (one-digit n l) (λ i. digit (ten i) ∷ digit (unit i) ∷ [])
    split false e = rw (two_digits n (ltb-false n 10 e) h)

-- to one digit: as it is
pub filled-one : (n : ℕ) → filled 1 n ≡ decimal n
unfolding filled
filled-one n = let l = digits-least n in let none : 1 - length (decimal n) ≡ 0 = omega arith in rw none
