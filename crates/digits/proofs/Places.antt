-- The digits of a number from the last on, and the decimal and zero-filled texts that they are. Assumes nothing.
use mathlib.Core.Path.{◌≡◌, refl, sym, ap, ◌∙◌}
use mathlib.Core.List.{List, [], ◌∷◌, ◌++◌}
use Prim.Native.Nat.{ℕ, zero, suc, ◌+◌, ◌-◌, ◌/◌, ◌%◌, ◌^◌, ◌≤◌, ◌<◌}
use native.Mathlib.Numerals.{sub-one}
use native.Mathlib.Omega.{arith}
use native.Mathlib.Nat.{not-suc-le-zero, le_of_suc-le-suc, lt_of_lt_of_le, pow-le-pow_right}
use lib.Dec.{lit<}
use lib.ListN.{length, drop, set, replicate, length-append}
use lib.Seq.{append_snoc}
use Rattle.rules.specs.Spelling.{digit, decimal, filled}
use Rattle.rules.proofs.OnSpelling.DecimalLaws.{by_digits, digits-hold}
use Rattle.digits.specs.Places.{digits_in}

-- ---- a turn of the loop leaves as much to be written as it found

drop-set-same : (l : List ℕ) (k b : ℕ) → k < length l → drop k (set l k b) ≡ b ∷ drop (suc k) l
drop-set-same [] k b h = absurd (not-suc-le-zero h)
drop-set-same (x ∷ l) zero b h = refl
drop-set-same (x ∷ l) (suc k) b h = drop-set-same l k b (le_of_suc-le-suc h)

pub digit-less : (i m : ℕ) (l : List ℕ) → 0 < i → i ≤ length l
    → digits_in (i - 1) (m / 10) ++ drop (i - 1) (set l (i - 1) (digit (m % 10))) ≡ digits_in i m ++ drop i l
unfolding digits_in
digit-less zero m l h r = absurd (not-suc-le-zero h)
digit-less (suc k) m l h r = rw (sub-one, drop-set-same l k (digit (m % 10)) r, append_snoc)

pub digit-none : (i m : ℕ) (l : List ℕ) → i ≤ 0 → l ≡ digits_in i m ++ drop i l
unfolding digits_in
digit-none zero m l h = refl
digit-none (suc k) m l h = absurd (not-suc-le-zero h)

-- ---- how many there are, and the zeros in front

pub digits-length : (k n : ℕ) → length (digits_in k n) ≡ k
unfolding digits_in
digits-length zero n = refl
digits-length (suc k) n = rw (length-append, digits-length k (n / 10)) (omega arith)

one-zero : (k n : ℕ) → n < 10 ^ k → digits_in (suc k) n ≡ digit 0 ∷ digits_in k n
unfolding digits_in
one-zero zero n h = let z : n ≡ 0 = omega arith in rw z
one-zero (suc k) n h = ap (λ (l : List ℕ). l ++ digit (n % 10) ∷ []) (one-zero k (n / 10) (omega arith))

zeros : (j k n : ℕ) → n < 10 ^ k → digits_in (j + k) n ≡ replicate j (digit 0) ++ digits_in k n
zeros zero k n h = ap (λ (m : ℕ). digits_in m n) (omega arith)
zeros (suc j) k n h =
    let more : suc j + k ≡ suc (j + k) = omega arith in
    let less : n < 10 ^ (j + k) = lt_of_lt_of_le h (pow-le-pow_right (lit< tt) {j = j + k} (omega arith)) in
    rw more (one-zero (j + k) n less ∙ ap (λ (l : List ℕ). digit 0 ∷ l) (zeros j k n h))

-- ---- a number in decimal, and zero-filled

-- its own digits: as many as it has
pub own-digits : (n : ℕ) → n < 10 ^ 20 → decimal n ≡ digits_in (length (decimal n)) n
unfolding digits_in
own-digits = by_digits (λ n l. l ≡ digits_in (length l) n) (λ n h. ap (λ (m : ℕ). digit m ∷ []) (omega arith)) more
  where
    more : (n : ℕ) (l : List ℕ) → 10 ≤ n → l ≡ digits_in (length l) (n / 10) → l ++ digit (n % 10) ∷ [] ≡ digits_in (length (l ++ digit (n % 10) ∷ [])) n
    more n l h e =
        let long : length (l ++ digit (n % 10) ∷ []) ≡ suc (length l) = rw length-append (omega arith) in
        rw long (ap (λ (m : List ℕ). m ++ digit (n % 10) ∷ []) e)

-- at least w digits: as many as the number has
pub filled-own : (w k n : ℕ) → n < 10 ^ 20 → k ≡ length (decimal n) → w ≤ k → filled w n ≡ digits_in k n
unfolding filled
filled-own w k n b e h = let none : w - length (decimal n) ≡ 0 = omega arith in rw (none, e) (own-digits n b)

-- or as many as are asked for
pub filled_more : (w k n : ℕ) → n < 10 ^ 20 → k ≡ length (decimal n) → k < w → filled w n ≡ digits_in w n
unfolding filled
filled_more w k n b e h =
    let own = length (decimal n) in
    let all : (w - own) + own ≡ w = omega arith in
    ap (λ (l : List ℕ). replicate (w - own) (digit 0) ++ l) (own-digits n b) ∙ sym (zeros (w - own) own n (digits-hold n b)) ∙ ap (λ (m : ℕ). digits_in m n) all
