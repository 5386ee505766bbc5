-- What the parse of eight digits tells, and what the fast path's answer tells. Assumes nothing.
use mathlib.Core.Path.{◌≡◌, refl, ap}
use mathlib.Core.Bool.{Bool, true, false, cond}
use mathlib.Core.List.{List}
use Prim.Native.Nat.{ℕ, ◌/◌, ◌%◌, ◌<◌}
use native.Mathlib.Omega.{arith}
use mir.Syntax.{w16}
use mir.Val.{to_z}
use mir.ValLaws.{to_z_pos}
use Rattle.std.specs.Prelude.{Option, Some, None}
use Rattle.rules.specs.Refusals.{Answer, not_text}
use Rattle.rules.specs.Kinds.{kD, Stored, settled, store}
use Rattle.rules.specs.Text.{decimal_value, read_text}
use Rattle.util.specs.Word.{all_digits}
use Rattle.util.specs.Parse.{parsed}
use Rattle.kinds.specs.Views.{made_as}
use Rattle.kinds.specs.declared.Packed.{Packed}
use Rattle.fast_date.specs.Fast.{fast_shape, quickly, Answers, Silent, eight}

pub parsed-some : (bs : List ℕ) (v : ℕ) → Some v ≡ parsed bs → (all_digits bs ≡ true) × (decimal_value bs ≡ v)
parsed-some bs v e = split (all_digits bs) e
  where
    split : (t : Bool) → Some v ≡ cond t (Some (decimal_value bs)) None → (t ≡ true) × (decimal_value bs ≡ v)
    split true p = (refl, cc)
    split false p = let z : ◌≡◌ {A = ℕ} 0 1 = cc in absurd (omega arith)

pub parsed-none : (bs : List ℕ) → None ≡ parsed bs → all_digits bs ≡ false
parsed-none bs e = split (all_digits bs) e
  where
    split : (t : Bool) → None ≡ cond t (Some (decimal_value bs)) None → t ≡ false
    split true p = let z : ◌≡◌ {A = ℕ} 0 1 = cc in absurd (omega arith)
    split false p = refl

-- the date made of eight digits' value, whose year comes to the maker as 16 bits, is their answer
pub eight-told : (bs : List ℕ) (v : ℕ) (made : Option Packed) → Some v ≡ parsed bs → v < 100000000 →
    ((n : ℕ) → made_as n made ≡ store (settled kD n (record { year = to_z w16 (v / 10000); month = v / 100 % 100; day = v % 100; hour = 0 }))) →
    Answers (made_as not_text made) ≡ eight bs
unfolding eight
eight-told bs v made is-v small is_made =
    let t = parsed-some bs v is-v in
    rw (t.0, t.1) (ap Answers (rw (to_z_pos w16 (v / 10000) (omega arith)) at (is_made not_text)))

-- what the fast path answers is what the plain reader answers
pub quick-is : (s : List ℕ) (a : Answer Stored) → Answers a ≡ quickly s → a ≡ store (read_text kD s)
unfolding quickly
quick-is s a e = split (fast_shape s) e
  where
    split : (t : Bool) → Answers a ≡ cond t (Answers (store (read_text kD s))) Silent → a ≡ store (read_text kD s)
    split true p = cc
    split false p = let z : ◌≡◌ {A = ℕ} 0 1 = cc in absurd (omega arith)
