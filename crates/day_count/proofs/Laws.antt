-- The steps of counting days, over the halves of each number: a day number, the date of one, what is judged of a sum; and what a date
-- of a kind that counts days has. Assumes nothing.
use mathlib.Core.Path.{◌≡◌, sym, ap, ◌∙◌}
use mathlib.Core.Bool.{true}
use Prim.Native.Nat.{ℕ, ◌+◌, ◌-◌, ◌/◌, ◌%◌, ◌≤◌, ◌<◌}
use native.Mathlib.Omega.{arith}
use lib.IntN.{ℤ, pos, nat_abs, sub_ℕ, ◌+ℤ◌}
use lib.Signed.{quot_z, rem_z}
use mir.Syntax.{w32}
use mir.Val.{to_z, of_z, SFits}
use mir.Facts.{to_z-of_z}
use Rattle.sign.specs.Halves.{up, dn, Halved}
use Rattle.sign.proofs.Laws.{same, ints, one_side, up-sub, dn-sub}
use Rattle.rules.specs.Refusals.{Answer, Gives, given}
use Rattle.rules.specs.Calendar.{month_day, month_length}
use Rattle.rules.specs.Kinds.{Kind, kR, kD, kH, kU, kE, kV, Fields, of_kind, Stored, store_like, handed, of_date}
use Rattle.rules.specs.Days.{add_days, counts_days, day_fields, date_within, summed, summed_hour}
use Rattle.rules.proofs.OnKinds.KindLaws.{keeps_months, fit, month-fits}
use Rattle.rules.proofs.OnDays.OrderLaws.{hour-small}
use Rattle.rules.proofs.OnKinds.PackLaws.{handed-tells}
use Rattle.rules.proofs.OnDays.CountLaws.{given-range}
use Rattle.rules.proofs.OnDays.DayLaws.{counter}
use Rattle.std.specs.Prelude.{⊤, Result, Ok}
use Rattle.refusals.specs.declared.Refusal.{Refusal}
use Rattle.kinds.specs.declared.Packed.{Packed}
use Rattle.day_count.specs.Views.{summed_as, judged_as}

-- a number by its halves and their bounds
halved : {top : ℕ} (z : ℤ) {u d : ℕ} → up z ≡ u → dn z ≡ d → u ≤ top → d ≤ top + 1 → Halved top z u d
halved z e f p q =
    record { up_is = e; dn-is = f; up-most = p; dn-most = q; one = omega (arith, one_side z) }

-- ---- the day number of a year's day

-- ---- the date of a day number, of whose halves one is 0

module _ (u d : ℕ) (o : u - d ≡ u) where
  year-is : sub_ℕ (u / 365) (d / 365) ≡ quot_z (sub_ℕ u d) (pos 365)
  year-is = let q : d - u ≡ d = omega arith in same _ _ (simp ints (simp (o, q) (omega arith)))

  day-is : (u + d) % 365 ≡ nat_abs (rem_z (sub_ℕ u d) (pos 365))
  day-is = let q : d - u ≡ d = omega arith in simp ints (simp (o, q) (omega arith))

  pub date-is : (h : ℕ) {y : ℤ} {m t : ℕ} → y ≡ sub_ℕ (u / 365) (d / 365) →
      m ≡ (month_day ((u + d) % 365)).month → t ≡ (month_day ((u + d) % 365)).day →
      ◌≡◌ {A = Fields} (record { year = y; month = m; day = t; hour = h }) (day_fields (sub_ℕ u d) h)
  unfolding day_fields
  date-is h e f g = rw (e, f, g, year-is, day-is)

-- ---- a sum: the halves of two numbers, added

pub sum_is : {s t : ℕ} {n m : ℤ} {u d v e : ℕ} → Halved s n u d → Halved t m v e → sub_ℕ (u + v) (d + e) ≡ n +ℤ m
sum_is h k = same _ _ (simp (ints, h.up_is, h.dn-is, k.up_is, k.dn-is) (omega arith))

-- the number by itself on its side of 0
pub side-below : (u d : ℕ) → u < d → sub_ℕ 0 (d - u) ≡ sub_ℕ u d
side-below u d p = same _ _ (simp ints (omega arith))

pub side-above : (u d : ℕ) → d ≤ u → sub_ℕ (u - d) 0 ≡ sub_ℕ u d
side-above u d p = same _ _ (simp ints (omega arith))

-- ---- what is judged of a number, over the range and the date of a number

module _ (low high u d : ℕ) (v : Result ⊤ Refusal) (e : (date : ℤ → Fields) → judged_as v date (sub_ℕ u d) ≡ date_within low high date (sub_ℕ u d)) where
  pub judged-range : {t : ⊤} → v ≡ Ok t → (d ≤ u + low) × (u ≤ d + high)
  judged-range i =
      let date : ℤ → Fields = λ n. day_fields n 0 in
      let r = given-range low high date (sub_ℕ u d) (ap given (sym (e date) ∙ ap (λ w. judged_as w date (sub_ℕ u d)) i)) in
      (omega (arith, r.0, up-sub u d, dn-sub u d), omega (arith, r.1, up-sub u d, dn-sub u d))

-- in days: the sum's own answer
pub judged-days : (n : ℤ) (h : ℕ) {v w : Result ⊤ Refusal} → ((date : ℤ → Fields) → judged_as v date n ≡ date_within 11960684 11960319 date n) → v ≡ w →
    summed n h ≡ judged_as w (λ m. day_fields m h) n
unfolding summed
judged-days n h e i = sym (e (λ m. day_fields m h)) ∙ ap (λ x. judged_as x (λ m. day_fields m h) n) i

-- ---- a date handed in, of a kind that keeps the months' lengths, or that counts days

module _ (k : Kind) (d : Stored) (f : Fields) (e : handed k d ≡ Gives f) where
  of-kind : of_kind k f ≡ true
  of-kind = (handed-tells k d f e).of-kind

  pub in-month : keeps_months k ≡ true → (1 ≤ f.month) × (f.month ≤ 12) × (1 ≤ f.day) × (f.day ≤ month_length f.month)
  in-month m = let t = fit k f of-kind in (t.month-low, t.month-high, t.day-low, month-fits k m f of-kind)

  pub on-calendar : counts_days k ≡ true → (1 ≤ f.month) × (f.month ≤ 12) × (1 ≤ f.day) × (f.day ≤ month_length f.month)
  on-calendar c = in-month (counter k c)

  pub hour-low : summed_hour k f.hour < 32
  hour-low = low_by k (hour-small k f of-kind)
    where
      low_by : (k : Kind) {h : ℕ} → h < 32 → summed_hour k h < 32
      low_by kR l = omega arith
      low_by kD l = omega arith
      low_by kH l = omega arith
      low_by kU l = omega arith
      low_by kE l = omega arith
      low_by kV l = l

-- ---- a kind's answer, from the core's: days, or whatever is added, come to it as 32 bits

pub sum-answers-by : (k : Kind) (d : Stored) (add : Fields → ℤ → Answer Fields) {count : ℤ} {sum r : Result Packed Refusal} → SFits w32 count →
    summed_as sum ≡ store_like d (of_date k d (λ f. add f (to_z w32 (of_z w32 count)))) → sum ≡ r →
    summed_as r ≡ store_like d (of_date k d (λ f. add f count))
sum-answers-by k d add fits is same = ap summed_as (sym same) ∙ (rw (to_z-of_z fits) at is)

pub sum-answers : (k : Kind) (d : Stored) {days : ℤ} {sum r : Result Packed Refusal} → SFits w32 days →
    summed_as sum ≡ store_like d (of_date k d (λ f. add_days k f (to_z w32 (of_z w32 days)))) → sum ≡ r →
    summed_as r ≡ store_like d (of_date k d (λ f. add_days k f days))
sum-answers k d fits is same = sum-answers-by k d (add_days k) fits is same
