-- #111: what a kind has that counts in blocks of hours, whatever the length of a block: whole blocks make up a day, and the kind's
-- hours are those at which a block begins. Assumes nothing.
use mathlib.Core.Path.{◌≡◌, refl, sym, subst}
use mathlib.Core.Bool.{Bool, true, false, not, ◌||◌}
use Prim.Native.Nat.{ℕ, ◌+◌, ◌-◌, ◌*◌, ◌%◌, ◌≤◌, ◌<◌, ◌∣◌}
use native.Mathlib.Nat.{one-dvd, dvd_of_mod-eq-zero, mod-eq-zero_of_dvd}
use native.Mathlib.Omega.{arith}
use borrow.Author.Tests.{eqb-true}
use lib.Dec.{T, eqb}
use Rattle.rules.specs.Kinds.{Kind, kR, kD, kH, kU, kE, kV, hour_fits, least_hour}
use Rattle.rules.proofs.OnKinds.KindLaws.{keeps_months, low, high, yes-within}
use Rattle.rules.proofs.OnDays.OrderLaws.{hours-between}
use Rattle.rules.proofs.Shared.Table.{below}
use Rattle.requests.specs.Hours.{counts_in}

-- an hour of a kind, from the first of a day
pub record Placed (block : ℕ) (k : Kind) (h : ℕ) : Type 0 where
  pub from_first : least_hour k ≤ h
  pub in-day : h - least_hour k < 24
  pub begins : block ∣ (h - least_hour k)

pub record Counts (block : ℕ) (k : Kind) : Type 0 where
  pub some : 1 ≤ block
  pub day : block ∣ 24
  pub months : keeps_months k ≡ true
  pub placed : (h : ℕ) → hour_fits k h ≡ true → Placed block k h
  pub fits : (n : ℕ) → n < 24 → block ∣ n → hour_fits k (n + least_hour k) ≡ true

-- ---- H, in hours

hour-placed : (h : ℕ) → hour_fits kH h ≡ true → Placed 1 kH h
hour-placed h e =
    let l = low 1 24 h e in let u = high 1 24 h e in record { from_first = l; in-day = omega arith; begins = one-dvd (h - 1) }

hourly : Counts 1 kH
hourly = record {
  some = omega arith;
  day = one-dvd 24;
  months = refl;
  placed = hour-placed;
  fits = λ n l d. yes-within 1 24 (n + 1) (omega arith) (omega arith);
}

-- ---- V, in blocks of six hours: one computed test each way

implied : (s t : Bool) → s ≡ true → T (not s || t) → t ≡ true
implied s true e p = refl
implied true false e p = absurd p
implied false false e p = absurd (subst T (sym e) tt)

six-placed : (h : ℕ) → hour_fits kV h ≡ true → Placed 6 kV h
six-placed h e =
    let b = hours-between kV h e in
    let s = eqb-true (h % 6) 0 (implied (hour_fits kV h) _ e (below (λ n. not (hour_fits kV n) || eqb (n % 6) 0) 24 tt h (omega arith))) in
    record { from_first = omega arith; in-day = omega arith; begins = dvd_of_mod-eq-zero 6 (omega arith) }

six-fits : (n : ℕ) → n < 24 → 6 ∣ n → hour_fits kV (n + 0) ≡ true
six-fits n l d =
    let z : n + 0 ≡ n = omega arith in let r = mod-eq-zero_of_dvd 6 d in
    rw z (implied (eqb (n % 6) 0) _ (rw r) (below (λ m. not (eqb (m % 6) 0) || hour_fits kV m) 24 tt n l))

in-sixes : Counts 6 kV
in-sixes = record {
  some = omega arith;
  day = dvd_of_mod-eq-zero 6 refl;
  months = refl;
  placed = six-placed;
  fits = six-fits;
}

-- ---- the two

pub counts : (block : ℕ) (k : Kind) → counts_in block k ≡ true → Counts block k
counts block kR c = absurd (subst T (sym c) tt)
counts block kD c = absurd (subst T (sym c) tt)
counts block kH c = subst (λ b. Counts b kH) (sym (eqb-true block 1 c)) hourly
counts block kU c = absurd (subst T (sym c) tt)
counts block kE c = absurd (subst T (sym c) tt)
counts block kV c = subst (λ b. Counts b kV) (sym (eqb-true block 6 c)) in-sixes
