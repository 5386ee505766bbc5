-- The test of `is_digits`, byte by byte: a byte's high nibble, and that of the byte plus 6, are both 3 just where the byte is a digit, and then no carry leaves it.
-- Assumes nothing.
use Rattle.std.proofs.Common.{◌≡◌, ℕ, zero, suc, ◌+◌, ◌*◌, ◌/◌, ◌%◌, ◌^◌, ◌<◌, ◌≤◌, Bool, true, false, ◌&&◌, eqb, leb, refl, ap, ◌∙◌, ap₂, arith, lit<, ne_eqb, leb-false, leb-true}
use lib.Bits.{bit_and, bit_or, and_zero_r, and_shr, or_block, and_high, and_mask, or_shifted}
use Rattle.rules.specs.Text.{is_digit}
use Rattle.util.specs.Word.{bytes_of, all_digits}
use Rattle.util.proofs.Lanes.{rep, and-field, and-wrap, eqb-iff}

-- the high nibble of each of n bytes of w, where it stands, and that of s below it
unfoldable pub marks : ℕ → ℕ → ℕ → ℕ
marks zero w s = 0
marks (suc n) w s = marks n (w / 256) (s / 256) * 256 + (w % 256 / 16 * 16 + s % 256 / 16)

-- what the program computes, with its shift taken first
pub marks-is : (n w s : ℕ) → bit_or (bit_and w (rep n 0xf0)) (bit_and (s / 16) (rep n 0x0f)) ≡ marks n w s
unfolding marks rep
marks-is zero w s = ap₂ bit_or (and_zero_r w) (and_zero_r (s / 16))
marks-is (suc n) w s =
    let swap : s / 16 / 256 ≡ s / 256 / 16 = omega arith in
    rw (
      and-field 8 w (rep n 0xf0) 0xf0 (lit< tt),
      and-field 8 (s / 16) (rep n 0x0f) 0x0f (lit< tt),
      and_high (w % 256) 4 4,
      and_mask (s / 16 % 256) 4,
      or_block 8 (bit_and (w / 256) (rep n 0xf0)) (bit_and (s / 16 / 256) (rep n 0x0f)) (w % 256 / 16 % 16 * 16) (s / 16 % 256 % 16) (omega arith) (omega arith),
      swap,
      marks-is n (w / 256) (s / 256),
      or_shifted (w % 256 / 16 % 16) 4 (s / 16 % 256 % 16) (omega arith),
    )
    (omega arith)

-- no byte but a digit has the marks 0x33
digit : (x y b : ℕ) → b < 256 → x * 256 + (b / 16 * 16 + (b + 6) % 256 / 16) ≡ y * 256 + 0x33 → (48 ≤ b) × (b ≤ 57)
digit x y b h e =
    let low : b / 16 * 16 + (b + 6) % 256 / 16 ≡ 0x33 = omega arith in
    let nibble : b / 16 ≡ 3 = omega arith in
    omega arith

-- one byte b with x above it: its test, and that of x', which is x if b makes no carry
byte : (x x' y b : ℕ) (s t : Bool) → leb 48 b ≡ s → leb b 57 ≡ t → b < 256 → (b < 250 → x ≡ x')
    → eqb (x * 256 + (b / 16 * 16 + (b + 6) % 256 / 16)) (y * 256 + 0x33) ≡ (s && t) && eqb x' y
byte x x' y b true true p q h f =
    let same : x ≡ x' = f (omega (arith, leb-true)) in
    let low : b / 16 * 16 + (b + 6) % 256 / 16 ≡ 0x33 = omega (arith, leb-true) in
    eqb-iff (x * 256 + (b / 16 * 16 + (b + 6) % 256 / 16)) (y * 256 + 0x33) x' y (λ e. omega arith) (λ e. omega arith)
byte x x' y b true false p q h f = ne_eqb _ (y * 256 + 0x33) (λ e. omega (arith, leb-false, digit x y b h e))
byte x x' y b false t p q h f = ne_eqb _ (y * 256 + 0x33) (λ e. omega (arith, leb-false, digit x y b h e))

pub is-marked : (n w : ℕ) → eqb (marks n w (w + rep n 6)) (rep n 0x33) ≡ all_digits (bytes_of n w)
unfolding all_digits bytes_of marks rep
is-marked zero w = refl
is-marked (suc n) w =
    let low : (w + (rep n 6 * 256 + 6)) % 256 ≡ (w % 256 + 6) % 256 = omega arith in
    rw low
    (byte (marks n (w / 256) ((w + (rep n 6 * 256 + 6)) / 256)) (marks n (w / 256) (w / 256 + rep n 6)) (rep n 0x33) (w % 256) _ _ refl refl (omega arith)
    (λ h. ap (marks n (w / 256)) (omega arith))
    ∙ ap (λ (t : Bool). is_digit (w % 256) && t) (is-marked n (w / 256)))

-- the program's test, in a word of k bits that holds n bytes
pub tested : (k n w s : ℕ) → rep n 0xf0 < 2 ^ k → rep n 0xf0 / 16 ≡ rep n 0x0f → s ≡ (w + rep n 6) % 2 ^ k
    → eqb (bit_or (bit_and w (rep n 0xf0)) (bit_and s (rep n 0xf0) / 16)) (rep n 0x33) ≡ all_digits (bytes_of n w)
tested k n w s l h e =
    let sum : ℕ = w + rep n 6 in
    rw (e, and-wrap k sum (rep n 0xf0) l, and_shr sum (rep n 0xf0) 4, h, marks-is n w sum) (is-marked n w)
