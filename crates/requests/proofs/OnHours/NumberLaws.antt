-- #111: the number of a date and the date of a number, in hours, for a kind that counts in blocks of any length. Assumes nothing.
use mathlib.Core.Path.{◌≡◌, refl, sym, ap, ◌∙◌}
use mathlib.Core.Bool.{true}
use Prim.Native.Nat.{ℕ, ◌+◌, ◌-◌, ◌*◌, ◌/◌, ◌%◌, ◌≤◌, ◌<◌, ◌∣◌}
use native.Mathlib.Nat.{dvd-add, dvd-mul_right_of_dvd, dvd-mod_iff}
use native.Mathlib.Omega.{arith}
use lib.IntN.{ℤ, pos, sub_ℕ, ◌+ℤ◌, ◌-ℤ◌, ◌*ℤ◌}
use Rattle.sign.specs.Halves.{up, dn}
use Rattle.sign.proofs.Laws.{same, one_side, up-mul, dn-mul, up-sub, dn-sub, abs_is}
use Rattle.sign.proofs.Balance.{sum-even, Whole}
use Rattle.rules.specs.Refusals.{Gives}
use Rattle.rules.specs.Calendar.{month_length, month_day, day_of_year}
use Rattle.rules.specs.Kinds.{Kind, kH, kV, Fields, least_hour, of_kind}
use Rattle.rules.specs.Numbers.{on_day, straight_at, straight, write_number}
use Rattle.rules.proofs.OnCalendar.CalendarLaws.{there_and_back, back-and-there, day-of-year-small, is-day}
use Rattle.rules.proofs.OnKinds.KindLaws.{fit, fit-back, days-in, month-fits}
use Rattle.rules.proofs.OnDays.CountLaws.{InRange, range_gives}
use Rattle.requests.specs.Hours.{hour_number, since_first, hours_after, hour_summed}
use Rattle.requests.proofs.OnHours.BlockLaws.{Placed, Counts}

-- ---- which number it is

pub straight-even : (y : ℤ) (d h : ℕ) → up (straight_at y d h) + 8760 * dn y ≡ dn (straight_at y d h) + 8760 * up y + 43800000 + 24 * d + h
straight-even y d h =
    let z = y +ℤ pos 5000 in let x = pos 365 *ℤ z +ℤ pos d in
    omega (arith, sum-even y (pos 5000), up-mul 365 z, dn-mul 365 z, sum-even (pos 365 *ℤ z) (pos d), up-mul 24 x, dn-mul 24 x, sum-even (pos 24 *ℤ x) (pos h))

-- "on the number that H writes"
pub hour-number-written : (f : Fields) → write_number kH f ≡ Gives (hour_number kH f)
unfolding write_number hour_number
hour-number-written f = refl

-- "on its date's number plus its hour": the date's is that of its day without an hour
pub hour-number-six : (f : Fields) → hour_number kV f ≡ straight f 0 +ℤ pos f.hour
unfolding hour_number straight
hour-number-six f =
    let y = f.year in let d = day_of_year f.month f.day in
    let p = one_side (straight_at y d 0) in let q = one_side (straight_at y d (f.hour - 0)) in
    same _ _ (omega (arith, straight-even y d 0, straight-even y d (f.hour - 0), sum-even (straight_at y d 0) (pos f.hour)))

-- ---- a date's number

-- it lies in the range
pub straight-in : (y : ℤ) (d h : ℕ) → dn y ≤ 32768 → up y ≤ 32767 → d < 365 → h < 24 → InRange 243247680 330847679 (straight_at y d h)
straight-in y d h a b p q = let e = straight-even y d h in let o = one_side y in (omega arith, omega arith)

-- from the first hour of year -32768 on
pub since-even : (s : ℤ) → dn s ≤ up s + 243247680 → since_first s + dn s ≡ up s + 243247680
since-even s h = let o = one_side (s +ℤ pos 243247680) in omega (arith, sum-even s (pos 243247680), abs_is (s +ℤ pos 243247680))

module _ {block : ℕ} (k : Kind) (c : Counts block k) (f : Fields) (p : of_kind k f ≡ true) where
  pub fits : f.day ≤ month_length f.month
  fits = month-fits k c.months f p

  pub day-in : day_of_year f.month f.day < 365
  day-in = let t = fit k f p in day-of-year-small f.month f.day t.month-high t.day-low fits

  pub hour-in : Placed block k f.hour
  hour-in = c.placed f.hour (fit k f p).hour-fits

  pub number-even : up (hour_number k f) + 8760 * dn f.year
      ≡ dn (hour_number k f) + 8760 * up f.year + 43800000 + 24 * day_of_year f.month f.day + (f.hour - least_hour k)
  unfolding hour_number straight
  number-even = straight-even f.year (day_of_year f.month f.day) (f.hour - least_hour k)

  pub number_in : InRange 243247680 330847679 (hour_number k f)
  unfolding hour_number straight
  number_in =
      let t = fit k f p in
      straight-in f.year (day_of_year f.month f.day) (f.hour - least_hour k) t.year-low t.year-high day-in hour-in.in-day

  age : since_first (hour_number k f) + 8760 * dn f.year
      ≡ 8760 * up f.year + 287047680 + 24 * day_of_year f.month f.day + (f.hour - least_hour k)
  age = let e = number-even in let s = since-even (hour_number k f) number_in.0 in omega arith

  -- the date of its number is the date
  pub date-back : hour_summed k (hour_number k f) ≡ Gives f
  unfolding hour_summed hours_after
  date-back =
      let t = fit k f p in let d = day-in in let h = hour-in in let l = h.from_first in let s = h.in-day in let a = age in
      let o = one_side f.year in let n = since_first (hour_number k f) in
      let year : sub_ℕ (n / 8760) 32768 ≡ f.year = same _ _ (rw (up-sub, dn-sub) (omega arith)) in
      let day : n / 24 % 365 ≡ day_of_year f.month f.day = omega arith in
      let hour : n % 24 + least_hour k ≡ f.hour = omega arith in
      range_gives 243247680 330847679 (omega arith) (omega arith) (λ m. hours_after k (since_first m)) (hour_number k f) number_in
      ∙ (λ i. Gives (on_day (year i) (day i) (hour i)))
      ∙ rw (back-and-there f.month f.day t.month-low t.month-high t.day-low fits)

  -- its number is whole blocks
  pub number-whole : Whole block (hour_number k f)
  number-whole =
      let e = number-even in
      let m = 365 * dn f.year in let n = 365 * up f.year + 1825000 + day_of_year f.month f.day in record {
        less = 24 * m;
        more = 24 * n + (f.hour - least_hour k);
        less-whole = dvd-mul_right_of_dvd block c.day m;
        more-whole = dvd-add block (dvd-mul_right_of_dvd block c.day n) hour-in.begins;
        even = omega arith;
      }

-- ---- a number's date

-- the number of a number's date is the number
pub number_of : (k : Kind) (s : ℤ) → dn s ≤ up s + 243247680 → hour_number k (hours_after k (since_first s)) ≡ s
unfolding hour_number straight hours_after
number_of k s a =
    let n = since_first s in let i = since-even s a in
    let hour : n % 24 + least_hour k - least_hour k ≡ n % 24 = omega arith in
    let e = straight-even (sub_ℕ (n / 8760) 32768) (n / 24 % 365) (n % 24) in
    rw (there_and_back (n / 24 % 365) (omega arith), hour)
    (same _ _ (omega (arith, up-sub (n / 8760) 32768, dn-sub (n / 8760) 32768)))

-- the date of a number in the range, whole blocks after the first hour, is one of the kind
pub is-date : {block : ℕ} (k : Kind) → Counts block k → (n : ℕ) → n ≤ 574095359 → block ∣ n → of_kind k (hours_after k n) ≡ true
unfolding hours_after
is-date {block} k c n l w =
    let m = is-day (n / 24 % 365) (omega arith) in
    fit-back k (hours_after k n) (record {
      year-low = rw dn-sub (omega arith);
      year-high = rw up-sub (omega arith);
      month-low = m.month-low;
      month-high = m.month-high;
      day-low = m.day-low;
      day-high = rw (days-in k c.months (month_day (n / 24 % 365)).month) m.day-high;
      hour-fits = c.fits (n % 24) (omega arith) ((dvd-mod_iff block c.day).1 w);
    })
