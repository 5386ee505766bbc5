-- Signed numbers and the bits that a local holds of them, once for every width. Assumes nothing.
use mathlib.Core.Path.{◌≡◌, refl, ap, sym, ◌∙◌, subst}
use mathlib.Core.Bool.{true, false}
use Prim.Native.Nat.{ℕ, suc, ◌+◌, ◌-◌, ◌^◌, ◌≤◌, ◌<◌, zero-le}
use native.Mathlib.Nat.{lt_of_le_of_lt}
use native.Mathlib.Omega.{arith}
use lib.IntN.{ℤ, pos, negsuc}
use lib.Signed.{mag, lt_z}
use lib.Dec.{T}
use mir.Syntax.{Width}
use mir.Val.{to_z, of_z, bits, hbits, SFits}
use mir.ValLaws.{to_z-of_z, to_z_pos, pow-bits}
use borrow.Author.Tests.{ltb-true}
use Rattle.sign.specs.Halves.{up, dn}

-- ---- what a test `x < 0` tells of a signed parameter, whose local holds its bits `of_z w x`

-- x is not negative: its bits read back as a natural
pub record Above (w : Width) (x : ℤ) : Type 0 where
  pub reads : to_z w (of_z w x) ≡ pos (up x)
  pub none : dn x ≡ 0
  pub small : up x < 2 ^ hbits w

-- x is negative: the bits of `!x` read back as a natural
pub record Below (w : Width) (x : ℤ) : Type 0 where
  pub reads : to_z w ((2 ^ bits w - 1) - of_z w x) ≡ pos (mag x)
  pub none : up x ≡ 0
  pub some : dn x ≡ mag x + 1
  pub small : mag x < 2 ^ hbits w

pub above : (w : Width) (x : ℤ) → SFits w x → lt_z (to_z w (of_z w x)) (pos 0) ≡ false → Above w x
above w (pos n) f e = record { reads = to_z-of_z w (pos n) f; none = refl; small = f.sfits }
above w (negsuc n) f e = let z : true ≡ false = rw (to_z-of_z w (negsuc n) f) at e in absurd (subst T z tt)

pub below : (w : Width) (x : ℤ) → SFits w x → lt_z (to_z w (of_z w x)) (pos 0) ≡ true → Below w x
below w (pos n) f e = let h = ltb-true n 0 (rw (to_z-of_z w (pos n) f) at e) in absurd (omega arith)
below w (negsuc n) f e =
    let p = pow-bits w in let s = f.sfits in
    let k : (2 ^ bits w - 1) - (2 ^ bits w - suc n) ≡ n = omega arith in
    record { reads = rw k (to_z_pos w n s); none = refl; some = omega arith; small = s }

-- ---- the halves of a number, by the branch taken

-- ---- a number of its halves, by the branch taken: the bits of `!(d - u - 1)`, and of `u - d`

-- ---- for the callers

-- a signed result of a call, from its `.ok`
pub held : (w : Width) {z : ℤ} → mag z < 2 ^ hbits w → to_z w (of_z w z) ≡ z
held w {z} h = to_z-of_z w z (record { sfits = h })

-- that a number fits, over its two naturals, and back
pub fits-from : (w : Width) (z : ℤ) → up z < 2 ^ hbits w → dn z ≤ 2 ^ hbits w → SFits w z
fits-from w (pos n) p q = record { sfits = p }
fits-from w (negsuc n) p q = record { sfits = q }

pub record Within (h : ℕ) (z : ℤ) : Type 0 where
  pub up-less : up z < h
  pub dn-most : dn z ≤ h

pub fits-tells : (w : Width) (z : ℤ) → SFits w z → Within (2 ^ hbits w) z
fits-tells w (pos n) f = record { up-less = f.sfits; dn-most = zero-le }
fits-tells w (negsuc n) f = record { up-less = lt_of_le_of_lt zero-le f.sfits; dn-most = f.sfits }

-- two signed numbers of the same bits, as `a == b` compares them, are the same
pub same_bits : (w : Width) {a b : ℤ} → SFits w a → SFits w b → of_z w a ≡ of_z w b → a ≡ b
same_bits w {a} {b} f g e = sym (to_z-of_z w a f) ∙ ap (to_z w) e ∙ to_z-of_z w b g

-- ---- a number of 64 bits that fits fewer is the same number there
