-- The value of `value_of`: eight digits joined to pairs, the pairs to fours, and the fours to the eight. Assumes nothing.
use Rattle.std.proofs.Common.{◌≡◌, ℕ, zero, suc, ◌+◌, ◌-◌, ◌*◌, ◌/◌, ◌%◌, ◌^◌, ◌≤◌, true, leb, List, [], ◌∷◌, length, ap, ◌∙◌, ap₂, arith, lit<, lit≤, leb-true}
use mathlib.Core.Bool.{and-eq-true_iff}
use lib.Bits.{bit_and, and_zero_r, and_le_r, and_mask}
use Rattle.rules.specs.Text.{is_digit, decimal_value}
use Rattle.util.specs.Word.{bytes_of, all_digits}
use Rattle.util.proofs.Lanes.{rep, and-field}
use Rattle.util.proofs.Fuse.{pack, Below, fused, evens, join, fuse}

-- the program's values: eight digits, four pairs, two fours
abbrev pub ones : ℕ → ℕ
ones w = bit_and w 0x0f0f_0f0f_0f0f_0f0f

abbrev pub twos : ℕ → ℕ
twos v = join 8 10 0x00ff_00ff_00ff_00ff v

abbrev pub fours : ℕ → ℕ
fours v = join 16 100 0x0000_ffff_0000_ffff (twos v)

abbrev pub steps : ℕ → ℕ
steps v = join 32 10000 0xffff_ffff (fours v)

-- a mask bounds each, so that no product or sum wraps
pub bounds : (w : ℕ) → (ones w ≤ 0x0f0f_0f0f_0f0f_0f0f) × (twos (ones w) ≤ 0x00ff_00ff_00ff_00ff) × (fours (ones w) ≤ 0x0000_ffff_0000_ffff)
bounds w = (and_le_r w 0x0f0f_0f0f_0f0f_0f0f, and_le_r (ones w * 10 + ones w / 2 ^ 8) 0x00ff_00ff_00ff_00ff, and_le_r (twos (ones w) * 100 + twos (ones w) / 2 ^ 16) 0x0000_ffff_0000_ffff)

-- the digits that bytes spell, and the number that digits spell
unfoldable values : List ℕ → List ℕ
values [] = []
values (b ∷ bs) = (b - 48) ∷ values bs

unfoldable number : List ℕ → ℕ
number [] = 0
number (d ∷ ds) = d * 10 ^ length ds + number ds

eight : (a b c d e f g h : ℕ) → let ds : List ℕ = a ∷ b ∷ c ∷ d ∷ e ∷ f ∷ g ∷ h ∷ [] in Below 10 ds → steps (pack 8 ds) ≡ number ds
unfolding pack fused evens number
eight a b c d e f g h l =
    let ds : List ℕ = a ∷ b ∷ c ∷ d ∷ e ∷ f ∷ g ∷ h ∷ [] in
    rw (
      fuse 8 10 (lit< tt) (lit≤ tt) (lit≤ tt) (λ p x y h. omega arith) ds l,
      fuse 16 100 (lit< tt) (lit≤ tt) (lit≤ tt) (λ p x y h. omega arith) (fused 10 ds) (omega arith),
      fuse 32 10000 (lit< tt) (lit≤ tt) (lit≤ tt) (λ p x y h. omega arith) (fused 100 (fused 10 ds)) (omega arith),
    )
    (omega arith)

-- the low nibbles of digits are their values
lanes : (n w : ℕ) → all_digits (bytes_of n w) ≡ true → Below 10 (values (bytes_of n w)) × (bit_and w (rep n 0x0f) ≡ pack 8 (values (bytes_of n w)))
unfolding all_digits bytes_of values pack rep
lanes zero w e = (tt, and_zero_r w)
lanes (suc n) w e =
    let b : ℕ = w % 256 in
    let both = (and-eq-true_iff (is_digit b) (all_digits (bytes_of n (w / 256)))).0 e in
    let ends = (and-eq-true_iff (leb 48 b) (leb b 57)).0 both.0 in
    let lo : 48 ≤ b = leb-true 48 b ends.0 in
    let hi : b ≤ 57 = leb-true b 57 ends.1 in
    let more = lanes n (w / 256) both.1 in
    let value : b % 16 ≡ b - 48 = omega arith in
    ((omega arith, more.0), and-field 8 w (rep n 0x0f) 0x0f (lit< tt) ∙ ap₂ (λ (x y : ℕ). x * 256 + y) more.1 (and_mask b 4 ∙ value))

pub value-is : (w : ℕ) → all_digits (bytes_of 8 w) ≡ true → steps (ones w) ≡ decimal_value (bytes_of 8 w)
unfolding bytes_of values rep number decimal_value
value-is w e = ap steps (lanes 8 w e).1 ∙ eight _ _ _ _ _ _ _ _ (lanes 8 w e).0
