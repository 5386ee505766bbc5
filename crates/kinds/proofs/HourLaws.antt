-- The bits of a kind's hours are its hours: one test for each kind, computed for each byte. Assumes nothing.
use mathlib.Core.Path.{◌≡◌, refl}
use mathlib.Core.Bool.{Bool, true, false, ◌&&◌, beq}
use Prim.Native.Nat.{ℕ, ◌/◌, ◌%◌, ◌^◌, ◌≤◌, ◌<◌}
use lib.Dec.{T, leb, eqb}
use borrow.Author.Tests.{le-leb}
use Rattle.rules.specs.Kinds.{Kind, kR, kD, kH, kU, kE, kV, hour_fits}
use Rattle.rules.proofs.Shared.Table.{upto, below}
use Rattle.kinds.specs.HourBits.{hour_bits}

same_bool : (a b : Bool) → T (beq a b) → a ≡ b
same_bool true true t = refl
same_bool true false t = absurd t
same_bool false true t = absurd t
same_bool false false t = refl

abbrev bit : Kind → ℕ → Bool
bit k h = leb h 31 && eqb (hour_bits k / 2 ^ h % 2) 1

abbrev agrees : Kind → ℕ → Bool
agrees k h = beq (bit k h) (hour_fits k h)

tested : (k : Kind) → T (upto (agrees k) 256)
tested kR = tt
tested kD = tt
tested kH = tt
tested kU = tt
tested kE = tt
tested kV = tt

module _ (k : Kind) (h : ℕ) (l : h < 256) where
  agree : bit k h ≡ hour_fits k h
  agree = same_bool (bit k h) (hour_fits k h) (below (agrees k) 256 (tested k) h l)

  pub by_bit : h ≤ 31 → eqb (hour_bits k / 2 ^ h % 2) 1 ≡ hour_fits k h
  by_bit b = rw (← agree, le-leb h 31 b)
