-- What the default arm of a `match` on a number knows, where the other arms are n numbers one after the other, from b on: none of them is
-- the number. `omega` stops at 6 such facts. Assumes nothing.
use mathlib.Core.Path.{◌≡◌}
use Prim.Native.Nat.{ℕ, zero, suc, ◌+◌, ◌≤◌}
use native.Mathlib.Omega.{arith}

-- m is none of b, b + 1, ..: n of them. `c.match.rest` is of this type
abbrev pub NoneOf : ℕ → ℕ → ℕ → Type 0
NoneOf b m zero = Unit {0}
NoneOf b m (suc n) = NoneOf b m n × (m ≡ b + n → ⊥)

pub past : (b m n : ℕ) → NoneOf b m n → b ≤ m → b + n ≤ m
past b m zero r h = omega (arith, h)
past b m (suc n) r h = let l = past b m n r.0 h in omega (arith, l, r.1)
