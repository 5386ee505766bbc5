-- An integer as two naturals, of which one is 0: `up z` is z where z is positive, `dn z` is -z where z is negative.
-- Assumes nothing.
use Rattle.std.specs.Prelude.{◌≡◌, ℕ, suc, ◌+◌, ◌-◌, ◌≤◌, ℤ, pos, negsuc}

abbrev pub up : ℤ → ℕ
up (pos n) = n
up (negsuc n) = 0

abbrev pub dn : ℤ → ℕ
dn (pos n) = 0
dn (negsuc n) = suc n

-- x as u - d, where one of the two is 0 and neither passes the ends of its type, whose greatest number is `top`
pub record Halved (top : ℕ) (x : ℤ) (u d : ℕ) : Type 0 where
  pub up_is : up x ≡ u
  pub dn-is : dn x ≡ d
  pub up-most : u ≤ top
  pub dn-most : d ≤ top + 1
  pub one : u - d ≡ u
