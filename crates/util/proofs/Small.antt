-- n digits are less than 10 ^ n. Assumes nothing.
use Rattle.std.proofs.Common.{◌≡◌, ℕ, ◌-◌, ◌^◌, ◌<◌, ◌≤◌, true, leb, List, [], ◌∷◌, length, mul-le-mul_right, arith, lit<, leb-true}
use mathlib.Core.Bool.{and-eq-true_iff}
use native.Mathlib.Nat.{pow-succ'}
use Rattle.rules.specs.Text.{is_digit, decimal_value}
use Rattle.util.specs.Word.{all_digits}

pub digits-small : (bs : List ℕ) → all_digits bs ≡ true → decimal_value bs < 10 ^ length bs
unfolding all_digits decimal_value
digits-small [] e = lit< tt
digits-small (b ∷ bs) e =
    let both = (and-eq-true_iff (is_digit b) (all_digits bs)).0 e in
    let ends = (and-eq-true_iff (leb 48 b) (leb b 57)).0 both.0 in
    let hi : b ≤ 57 = leb-true b 57 ends.1 in
    let rest = digits-small bs both.1 in
    let nine = mul-le-mul_right {m = b - 48} {n = 9} (10 ^ length bs) (omega arith) in
    rw (pow-succ' 10 (length bs)) (omega arith)
