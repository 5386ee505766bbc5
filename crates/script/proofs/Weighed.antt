-- One weight more, and what the sum is modulo 2^32. Assumes nothing.
use mathlib.Core.Path.{◌≡◌, refl}
use mathlib.Core.List.{List, [], ◌∷◌}
use Prim.Native.Nat.{ℕ, zero, suc, ◌+◌, ◌*◌, ◌/◌, ◌%◌, ◌<◌}
use native.Mathlib.Nat.{add-zero, add-mul, mul_right_comm}
use native.Mathlib.Numerals.{add-one}
use native.Mathlib.Omega.{arith}
use lib.ListN.{length, take, get_or}
use Rattle.script.specs.Weighing.{weights_from}

more : (s : List ℕ) (n i : ℕ) → i < length s → weights_from n (take (suc i) s) ≡ weights_from n (take i s) + (n + i) * get_or s i 0
unfolding weights_from
more [] n i h = absurd (omega arith)
more (b ∷ s) n zero h = rw (add-zero n) (omega arith)
more (b ∷ s) n (suc i) h =
    let e : n + suc i ≡ suc n + i = omega arith in
    rw (more s (suc n) i (omega arith), e) (omega arith)

pub none : (s : List ℕ) → 0 ≡ weights_from 1 (take 0 s) % 4294967296
unfolding weights_from
none s = refl

pub turn : (s : List ℕ) (sum i w : ℕ) → i < length s → sum ≡ weights_from 1 (take i s) % 4294967296 → w ≡ (1 + i) * get_or s i 0 % 4294967296 →
    (sum + w) % 4294967296 ≡ weights_from 1 (take (i + 1) s) % 4294967296
turn s sum i w h e f =
    let x = weights_from 1 (take i s) in
    let y = (1 + i) * get_or s i 0 in
    let m : weights_from 1 (take (i + 1) s) ≡ x + y = rw (add-one i) (more s 1 i h) in
    omega (arith, m, e, f)

-- a place may be taken modulo 2^32 first
pub weight-of : (i b : ℕ) → (i % 4294967296 + 1) * b % 4294967296 ≡ (1 + i) * b % 4294967296
weight-of i b =
    let q = i / 4294967296 in
    let r = i % 4294967296 in
    let e : 1 + i ≡ q * 4294967296 + (r + 1) = omega arith in
    let m : (1 + i) * b ≡ q * 4294967296 * b + (r + 1) * b = rw e (add-mul (q * 4294967296) (r + 1) b) in
    let k : q * 4294967296 * b ≡ q * b * 4294967296 = mul_right_comm q 4294967296 b in
    omega (arith, m, k)
