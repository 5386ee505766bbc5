-- A sum, a difference and a multiple of integers as linear equations between naturals: `omega` splits no case for them, where the
-- subtractions of `ints` take two for each operation. And integers that are multiples of a natural, over the natural. Assumes nothing.
use mathlib.Core.Path.{◌≡◌, refl, sym, subst, ap}
use Prim.Native.Nat.{ℕ, ◌+◌, ◌-◌, ◌*◌, ◌/◌, ◌∣◌}
use native.Mathlib.Nat.{mul-add, mul_comm, dvd-add, dvd-sub, dvd-mul_right, div-mul_cancel}
use native.Mathlib.Omega.{arith}
use lib.IntN.{ℤ, pos, ◌+ℤ◌, ◌-ℤ◌, ◌*ℤ◌}
use lib.Signed.{quot_z}
use Rattle.sign.specs.Halves.{up, dn}
use Rattle.sign.proofs.Laws.{same, ints, one_side, up-mul, dn-mul, up-quot, dn-quot}

pub sum-even : (a b : ℤ) → up (a +ℤ b) + dn a + dn b ≡ dn (a +ℤ b) + up a + up b
sum-even a b = simp ints (omega arith)

pub gap-even : (a b : ℤ) → up (a -ℤ b) + dn a + up b ≡ dn (a -ℤ b) + up a + dn b
gap-even a b = simp ints (omega arith)

-- k times a sum
pub times-sum : (k : ℕ) (a b : ℤ) → pos k *ℤ a +ℤ pos k *ℤ b ≡ pos k *ℤ (a +ℤ b)
times-sum k a b =
    let e = sum-even (pos k *ℤ a) (pos k *ℤ b) in
    let m = ap (λ (n : ℕ). k * n) (sum-even a b) in
    let l : k * (up (a +ℤ b) + dn a + dn b) ≡ k * up (a +ℤ b) + k * dn a + k * dn b = rw (mul-add, mul-add) refl in
    let r : k * (dn (a +ℤ b) + up a + up b) ≡ k * dn (a +ℤ b) + k * up a + k * up b = rw (mul-add, mul-add) refl in
    same _ _ (omega (arith, up-mul k a, dn-mul k a, up-mul k b, dn-mul k b, up-mul k (a +ℤ b), dn-mul k (a +ℤ b)))

-- ---- multiples of k

-- an integer that is the difference of two multiples
pub record Whole (k : ℕ) (z : ℤ) : Type 0 where
  pub less : ℕ
  pub more : ℕ
  pub less-whole : k ∣ less
  pub more-whole : k ∣ more
  pub even : up z + less ≡ dn z + more

pub whole-times : (k : ℕ) (a : ℤ) → Whole k (pos k *ℤ a)
whole-times k a = record {
  less = k * dn a;
  more = k * up a;
  less-whole = dvd-mul_right k (dn a);
  more-whole = dvd-mul_right k (up a);
  even = omega (arith, up-mul k a, dn-mul k a);
}

pub whole_sum : (k : ℕ) (a b : ℤ) → Whole k a → Whole k b → Whole k (a +ℤ b)
whole_sum k a b p q = record {
  less = p.less + q.less;
  more = p.more + q.more;
  less-whole = dvd-add k p.less-whole q.less-whole;
  more-whole = dvd-add k p.more-whole q.more-whole;
  even = omega (arith, p.even, q.even, sum-even a b);
}

pub whole-gap : (k : ℕ) (a b : ℤ) → Whole k a → Whole k b → Whole k (a -ℤ b)
whole-gap k a b p q = record {
  less = p.less + q.more;
  more = p.more + q.less;
  less-whole = dvd-add k p.less-whole q.more-whole;
  more-whole = dvd-add k p.more-whole q.less-whole;
  even = omega (arith, p.even, q.even, gap-even a b);
}

-- one of them as a natural, counted from a multiple below it
pub whole_above : (k : ℕ) (z : ℤ) → Whole k z → (c n : ℕ) → k ∣ c → n + dn z ≡ up z + c → k ∣ n
whole_above k z p c n d e =
    let is : n ≡ p.more + c - p.less = omega (arith, p.even) in
    subst (λ m. k ∣ m) (sym is) (dvd-sub k (dvd-add k p.more-whole d) p.less-whole)

-- divided by k and multiplied again
pub whole_back : (k : ℕ) (z : ℤ) → Whole k z → pos k *ℤ quot_z z (pos k) ≡ z
whole_back k z p =
    let o = one_side z in let m = p.less in let n = p.more in let e = p.even in
    let u : up z ≡ n - m = omega arith in let d : dn z ≡ m - n = omega arith in
    let v = div-mul_cancel k {m = n - m} (dvd-sub k p.more-whole p.less-whole) in
    let w = div-mul_cancel k {m = m - n} (dvd-sub k p.less-whole p.more-whole) in
    same _ _ (rw (up-mul, dn-mul, up-quot, dn-quot, u, d) (omega (arith, mul_comm k ((n - m) / k), mul_comm k ((m - n) / k))))
