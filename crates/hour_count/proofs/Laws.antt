-- The steps of counting hours, over the halves of each number: a date's number, the date of one, a sum and a difference in blocks; and
-- what a date of a kind that counts hours has. Assumes nothing.
use mathlib.Core.Path.{◌≡◌, sym, ap, ◌∙◌}
use mathlib.Core.Bool.{true}
use Prim.Native.Nat.{ℕ, ◌+◌, ◌-◌, ◌*◌, ◌/◌, ◌%◌, ◌≤◌, ◌<◌}
use native.Mathlib.Nat.{le_of_dvd}
use native.Mathlib.Omega.{arith}
use lib.IntN.{ℤ, pos, sub_ℕ, ◌+ℤ◌, ◌*ℤ◌}
use Rattle.sign.specs.Halves.{up, dn, Halved}
use Rattle.sign.proofs.Laws.{same, up-sub, dn-sub, up-mul, dn-mul}
use Rattle.sign.proofs.Balance.{sum-even}
use Rattle.rules.specs.Refusals.{Gives}
use Rattle.rules.specs.Calendar.{month_day, month_length}
use Rattle.rules.specs.Kinds.{Kind, kR, kD, kH, kU, kE, kV, Fields, least_hour, Stored, handed}
use Rattle.rules.specs.Days.{date_within}
use Rattle.rules.proofs.OnKinds.PackLaws.{handed-tells}
use Rattle.rules.proofs.OnDays.CountLaws.{InRange}
use Rattle.requests.specs.Hours.{counts_in, since_first, hours_after, hour_summed}
use Rattle.requests.proofs.OnHours.BlockLaws.{counts}
use Rattle.requests.proofs.OnHours.NumberLaws.{since-even, hour-in}
use Rattle.std.specs.Prelude.{⊤, Result}
use Rattle.refusals.specs.declared.Refusal.{Refusal}
use Rattle.day_count.specs.Views.{judged_as}
use Rattle.day_count.proofs.Laws.{in-month}

-- ---- a date's number

-- the halves of a number in the range
pub in_halves : {z : ℤ} {u d : ℕ} → InRange 243247680 330847679 z → Halved 2147483647 z u d → Halved 330847679 z u d
in_halves r h =
    let o = h.one in let p = h.up_is in let q = h.dn-is in
    record { up_is = p; dn-is = q; up-most = omega (arith, r.1); dn-most = omega (arith, r.0); one = o }

-- ---- the date of a number

pub first_small : (k : Kind) → least_hour k ≤ 1
first_small kR = omega arith
first_small kD = omega arith
first_small kH = omega arith
first_small kU = omega arith
first_small kE = omega arith
first_small kV = omega arith

pub date-is : (k : Kind) (n : ℕ) {y : ℤ} {m t h : ℕ} → y ≡ sub_ℕ (n / 8760) 32768 →
    m ≡ (month_day (n / 24 % 365)).month → t ≡ (month_day (n / 24 % 365)).day → h ≡ n % 24 + least_hour k →
    ◌≡◌ {A = Fields} (record { year = y; month = m; day = t; hour = h }) (hours_after k n)
unfolding hours_after
date-is k n e f g i = rw (e, f, g, i)

-- how many hours u - d lies after the first
pub since-is : (u d : ℕ) → d ≤ u + 243247680 → u + 243247680 - d ≡ since_first (sub_ℕ u d)
since-is u d p =
    let a = up-sub u d in let b = dn-sub u d in omega (arith, since-even (sub_ℕ u d) (omega arith))

-- the sum's own answer, from what is judged of its number
pub judged-hours : (k : Kind) (n : ℤ) {v w : Result ⊤ Refusal} → ((date : ℤ → Fields) → judged_as v date n ≡ date_within 243247680 330847679 date n) → v ≡ w →
    hour_summed k n ≡ judged_as w (λ m. hours_after k (since_first m)) n
unfolding hour_summed
judged-hours k n e i =
    sym (e (λ m. hours_after k (since_first m))) ∙ ap (λ x. judged_as x (λ m. hours_after k (since_first m)) n) i

-- ---- a sum and a difference, in blocks

pub sum_is : {s t : ℕ} {n m : ℤ} {u d v e : ℕ} (b : ℕ) → Halved s n u d → Halved t m v e → sub_ℕ (u + b * v) (d + b * e) ≡ n +ℤ pos b *ℤ m
sum_is {s} {t} {n} {m} {u} {d} {v} {e} b h k =
    let p : up (pos b *ℤ m) ≡ b * v = up-mul b m ∙ ap (λ (x : ℕ). b * x) k.up_is in
    let q : dn (pos b *ℤ m) ≡ b * e = dn-mul b m ∙ ap (λ (x : ℕ). b * x) k.dn-is in
    let x = h.up_is in let y = h.dn-is in
    let a = up-sub (u + b * v) (d + b * e) in let c = dn-sub (u + b * v) (d + b * e) in
    same _ _ (omega (arith, sum-even n (pos b *ℤ m)))

-- ---- a kind that counts in blocks, and a date of it that was handed in

pub block-some : (block : ℕ) (k : Kind) → counts_in block k ≡ true → 1 ≤ block
block-some block k c = (counts block k c).some

pub block-most : (block : ℕ) (k : Kind) → counts_in block k ≡ true → block ≤ 24
block-most block k c = le_of_dvd (omega arith) (counts block k c).day

pub on-hour : (block : ℕ) (k : Kind) (d : Stored) (f : Fields) → handed k d ≡ Gives f → counts_in block k ≡ true →
    ((1 ≤ f.month) × (f.month ≤ 12) × (1 ≤ f.day) × (f.day ≤ month_length f.month)) × (least_hour k ≤ f.hour) × (f.hour - least_hour k < 24)
on-hour block k d f e c =
    let t = counts block k c in let h = hour-in k t f (handed-tells k d f e).of-kind in
    (in-month k d f e t.months, h.from_first, h.in-day)
