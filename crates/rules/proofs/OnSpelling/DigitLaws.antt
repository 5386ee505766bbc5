-- Digits read: those that a text starts with, their value, its leading number; one digit or two; and a number's own decimal read back.
-- Assumes nothing.
use mathlib.Core.Path.{◌≡◌, refl}
use mathlib.Core.Bool.{Bool, true, false, not}
use mathlib.Core.List.{List, [], ◌∷◌, ◌++◌}
use Prim.Native.Nat.{ℕ, suc, ◌+◌, ◌*◌, ◌/◌, ◌%◌, ◌^◌, ◌≤◌, ◌<◌}
use native.Mathlib.Nat.{pow-succ', mul_left_comm}
use native.Mathlib.Omega.{arith}
use borrow.Author.Tests.{not-true, ne_eqb, ltb-true, ltb-false}
use lib.Dec.{ltb, eqb}
use lib.IntN.{pos}
use lib.ListN.{length, length-append}
use Rattle.rules.specs.Refusals.{Gives}
use Rattle.rules.specs.Spelling.{digit, decimal, filled}
use Rattle.rules.specs.Text.{is_digit, digit_value, digits, after_digits, decimal_value, leading, second_digit, one_or_two}
use Rattle.rules.proofs.OnSpelling.DecimalLaws.{by_digits, one-digit, two_digits, filled-two}
use Rattle.rules.proofs.OnKinds.KindLaws.{low, yes-within}

-- ---- texts of digits, and texts that start with none

pub data OnlyDigits : List ℕ → Type 0 where
  none : OnlyDigits []
  next : {b : ℕ} {s : List ℕ} → is_digit b ≡ true → OnlyDigits s → OnlyDigits (b ∷ s)

abbrev pub no_digit : List ℕ → Bool
no_digit [] = true
no_digit (b ∷ s) = not (is_digit b)

is_digit_lem : (d : ℕ) → d < 10 → is_digit (digit d) ≡ true
is_digit_lem d h = yes-within 48 57 (digit d) (omega arith) (omega arith)

then-digit : {s : List ℕ} (b : ℕ) → OnlyDigits s → is_digit b ≡ true → OnlyDigits (s ++ b ∷ [])
then-digit b none e = next e none
then-digit b (next d ds) e = next d (then-digit b ds e)

-- ---- digits at the front of a text

pub digits-front : {s : List ℕ} (r : List ℕ) → OnlyDigits s → no_digit r ≡ true → digits (s ++ r) ≡ s
unfolding digits
digits-front [] none e = refl
digits-front (b ∷ r) none e = rw (not-true (is_digit b) e)
digits-front r (next d ds) e = rw (d, digits-front r ds e)

pub digits-after : {s : List ℕ} (r : List ℕ) → OnlyDigits s → no_digit r ≡ true → after_digits (s ++ r) ≡ r
unfolding after_digits
digits-after [] none e = refl
digits-after (b ∷ r) none e = rw (not-true (is_digit b) e)
digits-after r (next d ds) e = rw (d, digits-after r ds e)

-- a digit is no sign
pub no_sign : (b sign : ℕ) → is_digit b ≡ true → sign < 48 → eqb b sign ≡ false
no_sign b sign d h = let l = low 48 57 b d in ne_eqb b sign (λ e. omega arith)

-- digits that a text starts with are its leading number
pub lead-digits : {s : List ℕ} (r : List ℕ) → OnlyDigits s → 1 ≤ length s → no_digit r ≡ true →
    leading (s ++ r) ≡ Gives (record { value = pos (decimal_value s); rest = r })
unfolding leading
lead-digits r none h e = absurd (omega arith)
lead-digits r (next {b} d ds) h e =
    rw (no_sign b 45 d (omega arith), no_sign b 43 d (omega arith), d, digits-front r (next d ds) e, digits-after r (next d ds) e)

-- the value of digits, and of one digit more
value-more : (s : List ℕ) (b : ℕ) → decimal_value (s ++ b ∷ []) ≡ decimal_value s * 10 + digit_value b
unfolding decimal_value
value-more [] b = omega arith
value-more (c ∷ s) b =
    let p = 10 ^ length s in
    let l : length (s ++ b ∷ []) ≡ suc (length s) = rw length-append (omega arith) in
    let m : digit_value c * (10 * p) ≡ 10 * (digit_value c * p) = mul_left_comm (digit_value c) 10 p in
    rw (l, value-more s b, pow-succ' 10 (length s)) (omega arith)

-- ---- a number in decimal

pub decimal-digits : (n : ℕ) → n < 10 ^ 20 → OnlyDigits (decimal n)
decimal-digits =
    by_digits (λ n l. OnlyDigits l) (λ n h. next (is_digit_lem n h) none) (λ n l h ds. then-digit (digit (n % 10)) ds (is_digit_lem (n % 10) (omega arith)))

pub decimal-value : (n : ℕ) → n < 10 ^ 20 → decimal_value (decimal n) ≡ n
unfolding decimal_value
decimal-value = by_digits (λ n l. decimal_value l ≡ n) (λ n h. omega arith) (λ n l h e. rw (value-more l (digit (n % 10))) (omega arith))

-- ---- one digit, or two

read_one : (a : ℕ) (r : List ℕ) → a < 10 → no_digit r ≡ true → one_or_two (digit a ∷ r) ≡ Gives (record { value = a; rest = r })
unfolding one_or_two second_digit
read_one a [] h e = let v : digit_value (digit a) ≡ a = omega arith in rw (is_digit_lem a h, v)
read_one a (b ∷ r) h e = let v : digit_value (digit a) ≡ a = omega arith in rw (is_digit_lem a h, not-true (is_digit b) e, v)

read-two : (n : ℕ) (r : List ℕ) → n < 100 → one_or_two (digit (n / 10) ∷ digit (n % 10) ∷ r) ≡ Gives (record { value = n; rest = r })
unfolding one_or_two second_digit
read-two n r h =
    let v : digit_value (digit (n / 10)) * 10 + digit_value (digit (n % 10)) ≡ n = omega arith in
    rw (is_digit_lem (n / 10) (omega arith), is_digit_lem (n % 10) (omega arith), v)

pub read-decimal : (n : ℕ) (r : List ℕ) → n < 100 → no_digit r ≡ true →
    one_or_two (decimal n ++ r) ≡ Gives (record { value = n; rest = r })
read-decimal n r h e = split (ltb n 10) refl
  where
    split : (t : Bool) → ltb n 10 ≡ t → one_or_two (decimal n ++ r) ≡ Gives (record { value = n; rest = r })
    split true q = let l = ltb-true n 10 q in rw (one-digit n l) (read_one n r l e)
    split false q = rw (two_digits n (ltb-false n 10 q) h) (read-two n r h)

pub read-filled : (n : ℕ) (r : List ℕ) → n < 100 → one_or_two (filled 2 n ++ r) ≡ Gives (record { value = n; rest = r })
read-filled n r h = rw (filled-two n h) (read-two n r h)
