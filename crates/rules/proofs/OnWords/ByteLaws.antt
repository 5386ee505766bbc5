-- Numbers in bytes, big-endian: how many bytes, the number back, and what four bytes stand for. Assumes nothing.
use mathlib.Core.Path.{◌≡◌, refl, sym}
use mathlib.Core.List.{List, [], ◌∷◌, ◌++◌}
use Prim.Native.Nat.{ℕ, zero, suc, ◌+◌, ◌*◌, ◌/◌, ◌%◌, ◌^◌, ◌≤◌, ◌<◌}
use native.Mathlib.Nat.{pow-suc, mul_assoc}
use native.Mathlib.Numerals.{add-one}
use native.Mathlib.Omega.{arith}
use lib.ListN.{length, get_or, length-append}
use Rattle.rules.specs.Words.{big_endian, big_bytes}
use Rattle.rules.specs.Book.{length_said}

pub byte-count : (k n : ℕ) → length (big_bytes k n) ≡ k
unfolding big_bytes
byte-count zero n = refl
byte-count (suc k) n = rw (length-append, byte-count k (n / 256), add-one k)

-- the last byte counts once, and what stands before it 256 times
pub last_byte : (s : List ℕ) (b : ℕ) → big_endian (s ++ b ∷ []) ≡ big_endian s * 256 + b
unfolding big_endian
last_byte [] b = omega arith
last_byte (a ∷ s) b =
    let p : 256 ^ length (s ++ b ∷ []) ≡ 256 ^ length s * 256 = rw (length-append, add-one (length s), pow-suc) in
    let m : a * (256 ^ length s * 256) ≡ a * 256 ^ length s * 256 = sym (mul_assoc a (256 ^ length s) 256) in
    rw (p, m, last_byte s b) (omega arith)

-- a number that k bytes hold comes back
pub number-back : (k n : ℕ) → n < 256 ^ k → big_endian (big_bytes k n) ≡ n
unfolding big_endian big_bytes
number-back zero n h = omega arith
number-back (suc k) n h =
    let g : n < 256 ^ k * 256 = rw (pow-suc 256 k) at h in
    let l : n / 256 < 256 ^ k = omega arith in
    rw (last_byte (big_bytes k (n / 256)) (n % 256), number-back k (n / 256) l) (omega arith)

-- the length that a book says, from its four bytes
pub four_bytes : (s : List ℕ) → 4 ≤ length s → length_said s ≡ get_or s 0 0 * 16777216 + get_or s 1 0 * 65536 + get_or s 2 0 * 256 + get_or s 3 0
unfolding length_said big_endian
four_bytes [] h = absurd (omega arith)
four_bytes (a ∷ []) h = absurd (omega arith)
four_bytes (a ∷ b ∷ []) h = absurd (omega arith)
four_bytes (a ∷ b ∷ c ∷ []) h = absurd (omega arith)
four_bytes (a ∷ b ∷ c ∷ d ∷ s) h = omega arith

-- a number in two bytes and in four, where it fits them
pub two-bytes-of : (n : ℕ) → n < 65536 → big_bytes 2 n ≡ n / 256 ∷ n % 256 ∷ []
unfolding big_bytes
two-bytes-of n h = let e : n / 256 % 256 ≡ n / 256 = omega arith in rw e

pub four-bytes-of : (n : ℕ) → n < 4294967296 → big_bytes 4 n ≡ n / 16777216 ∷ n / 65536 % 256 ∷ n / 256 % 256 ∷ n % 256 ∷ []
unfolding big_bytes
four-bytes-of n h =
    let a : n / 256 / 256 / 256 % 256 ≡ n / 16777216 = omega arith in
    let b : n / 256 / 256 % 256 ≡ n / 65536 % 256 = omega arith in
    rw (a, b)
