-- The laws of `up` and `dn`: each operation and each test of ℤ, said of naturals, which `omega` reads.
use mathlib.Core.Path.{◌≡◌, refl, ap, sym, ◌∙◌, subst}
use mathlib.Core.Bool.{Bool, true, false, cond}
use Prim.Native.Nat.{ℕ, zero, suc, ◌+◌, ◌-◌, ◌*◌, ◌/◌, ◌%◌, ◌≤◌, ◌<◌}
use native.Mathlib.Omega.{arith}
use lib.IntN.{ℤ, pos, negsuc, neg_ℤ, sub_ℕ, nat_abs, ◌+ℤ◌, ◌*ℤ◌}
use lib.Signed.{lt_z, le_z, non_neg, quot_z, rem_z, ◌≤ℤ◌, ◌<ℤ◌}
use lib.Dec.{T, ltb, leb, leb-suc-suc, leb→le, ltb→lt}
use native.Mathlib.Nat.{add-zero, zero-add, zero-div, zero-mod}
use borrow.Author.Tests.{ltb-true, ltb-false, leb-true, leb-false, lt-ltb, le-ltb, le-leb, lt-leb}
use Rattle.sign.specs.Halves.{up, dn}

-- two integers are equal where the naturals say so
pub same : (a b : ℤ) → up a + dn b ≡ up b + dn a → a ≡ b
same (pos a) (pos b) h = ap pos (omega arith)
same (pos a) (negsuc b) h = absurd (omega arith)
same (negsuc a) (pos b) h = absurd (omega arith)
same (negsuc a) (negsuc b) h = ap negsuc (omega arith)

-- one of the two is 0
pub one_side : (a : ℤ) → up a - dn a ≡ up a
one_side (pos a) = omega arith
one_side (negsuc a) = omega arith

-- the difference of two naturals
up_if : (t : Bool) (m n : ℕ) → up (cond t (negsuc m) (pos n)) ≡ cond t 0 n
up_if true m n = refl
up_if false m n = refl

dn-if : (t : Bool) (m n : ℕ) → dn (cond t (negsuc m) (pos n)) ≡ cond t (suc m) 0
dn-if true m n = refl
dn-if false m n = refl

if-sub : (t : Bool) (a b : ℕ) → ltb a b ≡ t → (cond t 0 (a - b) ≡ a - b) × (cond t (suc (b - suc a)) 0 ≡ b - a)
if-sub true a b e = let h = ltb-true a b e in omega arith
if-sub false a b e = let h = ltb-false a b e in omega arith

pub up-sub : (a b : ℕ) → up (sub_ℕ a b) ≡ a - b
up-sub a b = up_if (ltb a b) _ _ ∙ (if-sub (ltb a b) a b refl).0

pub dn-sub : (a b : ℕ) → dn (sub_ℕ a b) ≡ b - a
dn-sub a b = dn-if (ltb a b) _ _ ∙ (if-sub (ltb a b) a b refl).1

-- sum, negation, product by a natural, truncating quotient and remainder by a natural
pub up-add : (a b : ℤ) → up (a +ℤ b) ≡ (up a + up b) - (dn a + dn b)
up-add (pos a) (pos b) = omega arith
up-add (pos a) (negsuc b) = rw up-sub (omega arith)
up-add (negsuc a) (pos b) = rw up-sub (omega arith)
up-add (negsuc a) (negsuc b) = omega arith

pub dn-add : (a b : ℤ) → dn (a +ℤ b) ≡ (dn a + dn b) - (up a + up b)
dn-add (pos a) (pos b) = omega arith
dn-add (pos a) (negsuc b) = rw dn-sub (omega arith)
dn-add (negsuc a) (pos b) = rw dn-sub (omega arith)
dn-add (negsuc a) (negsuc b) = omega arith

pub up_neg : (a : ℤ) → up (neg_ℤ a) ≡ dn a
up_neg (pos zero) = refl
up_neg (pos (suc n)) = refl
up_neg (negsuc n) = refl

pub dn-neg : (a : ℤ) → dn (neg_ℤ a) ≡ up a
dn-neg (pos zero) = refl
dn-neg (pos (suc n)) = refl
dn-neg (negsuc n) = refl

pub up-mul : (k : ℕ) (a : ℤ) → up (pos k *ℤ a) ≡ k * up a
up-mul k (pos a) = refl
up-mul k (negsuc a) = rw up_neg (omega arith)

pub dn-mul : (k : ℕ) (a : ℤ) → dn (pos k *ℤ a) ≡ k * dn a
dn-mul k (pos a) = omega arith
dn-mul k (negsuc a) = rw dn-neg refl

pub up-quot : (a : ℤ) (k : ℕ) → up (quot_z a (pos k)) ≡ up a / k
up-quot (pos a) k = refl
up-quot (negsuc a) k = rw up_neg (sym (zero-div k))

pub dn-quot : (a : ℤ) (k : ℕ) → dn (quot_z a (pos k)) ≡ dn a / k
dn-quot (pos a) k = sym (zero-div k)
dn-quot (negsuc a) k = rw dn-neg refl

pub up-rem : (a : ℤ) (k : ℕ) → up (rem_z a (pos k)) ≡ up a % k
up-rem (pos a) k = refl
up-rem (negsuc a) k = rw up_neg (sym (zero-mod k))

pub dn-rem : (a : ℤ) (k : ℕ) → dn (rem_z a (pos k)) ≡ dn a % k
dn-rem (pos a) k = sym (zero-mod k)
dn-rem (negsuc a) k = rw dn-neg refl

-- the tests

pub lt_z-is : (a b : ℤ) → lt_z a b ≡ ltb (up a + dn b) (up b + dn a)
lt_z-is (pos a) (pos b) = simp (add-zero)
lt_z-is (pos a) (negsuc b) = sym (le-ltb (a + suc b) (0 + 0) (omega arith))
lt_z-is (negsuc a) (pos b) = sym (lt-ltb (0 + 0) (b + suc a) (omega arith))
lt_z-is (negsuc a) (negsuc b) = simp (zero-add) (sym (leb-suc-suc (suc b) a))

pub le_z-is : (a b : ℤ) → le_z a b ≡ leb (up a + dn b) (up b + dn a)
le_z-is (pos a) (pos b) = simp (add-zero)
le_z-is (pos a) (negsuc b) = sym (lt-leb (a + suc b) (0 + 0) (omega arith))
le_z-is (negsuc a) (pos b) = sym (le-leb (0 + 0) (b + suc a) (omega arith))
le_z-is (negsuc a) (negsuc b) = simp (zero-add, leb-suc-suc)

-- a test of ℤ from a fact of ℕ
pub yes_lt : (a b : ℤ) → up a + dn b < up b + dn a → lt_z a b ≡ true
yes_lt a b h = lt_z-is a b ∙ lt-ltb _ _ h

pub no_lt : (a b : ℤ) → up b + dn a ≤ up a + dn b → lt_z a b ≡ false
no_lt a b h = lt_z-is a b ∙ le-ltb _ _ h

pub yes_le : (a b : ℤ) → up a + dn b ≤ up b + dn a → le_z a b ≡ true
yes_le a b h = le_z-is a b ∙ le-leb _ _ h

pub no_le : (a b : ℤ) → up b + dn a < up a + dn b → le_z a b ≡ false
no_le a b h = le_z-is a b ∙ lt-leb _ _ h

-- and back: `omega (arith, lt-true, lt-false, le-true, le-false)` reads a test of ℤ that went one way
pub lt-true : (a b : ℤ) → lt_z a b ≡ true → up a + dn b < up b + dn a
lt-true a b e = ltb-true _ _ (sym (lt_z-is a b) ∙ e)

pub lt-false : (a b : ℤ) → lt_z a b ≡ false → up b + dn a ≤ up a + dn b
lt-false a b e = ltb-false _ _ (sym (lt_z-is a b) ∙ e)

pub le-true : (a b : ℤ) → le_z a b ≡ true → up a + dn b ≤ up b + dn a
le-true a b e = leb-true _ _ (sym (le_z-is a b) ∙ e)

pub le-false : (a b : ℤ) → le_z a b ≡ false → up b + dn a < up a + dn b
le-false a b e = leb-false _ _ (sym (le_z-is a b) ∙ e)

-- the sign
pub yes-nonneg : (a : ℤ) → dn a ≡ 0 → non_neg a ≡ true
yes-nonneg (pos n) h = refl
yes-nonneg (negsuc n) h = absurd (omega arith)

pub no-nonneg : (a : ℤ) → 0 < dn a → non_neg a ≡ false
no-nonneg (pos n) h = absurd (omega arith)
no-nonneg (negsuc n) h = refl

pub nonneg-true : (a : ℤ) → non_neg a ≡ true → dn a ≡ 0
nonneg-true (pos n) e = refl
nonneg-true (negsuc n) e = absurd (subst T (sym e) tt)

-- the orders: `omega (arith, le-plain, lt-plain)` reads a hypothesis `a ≤ℤ b` or `a <ℤ b`
pub le-plain : (a b : ℤ) → a ≤ℤ b → up a + dn b ≤ up b + dn a
le-plain a b h = leb→le _ _ (subst T (le_z-is a b) h.le)

pub lt-plain : (a b : ℤ) → a <ℤ b → up a + dn b < up b + dn a
lt-plain a b h = ltb→lt _ _ (subst T (lt_z-is a b) h.lt)

pub abs_is : (a : ℤ) → nat_abs a ≡ up a + dn a
abs_is (pos n) = omega arith
abs_is (negsuc n) = omega arith

-- `simp ints` takes `up` and `dn` inside each operation; what is left is `omega`'s
pub ruleset ints = (up-add, dn-add, up-sub, dn-sub, up_neg, dn-neg, up-mul, dn-mul, up-quot, dn-quot, up-rem, dn-rem, abs_is)

-- ---- from three nested operations on, one operation at a time: an integer as a difference of naturals

-- a number of its halves, of which one is 0
pub sub-below : (n : ℕ) → sub_ℕ 0 n ≡ neg_ℤ (pos n)
sub-below n = same _ _ (simp ints (omega arith))

pub sub-above : (n : ℕ) → sub_ℕ n 0 ≡ pos n
sub-above n = same _ _ (simp ints (omega arith))
