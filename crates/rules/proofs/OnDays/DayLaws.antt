-- Day numbers and dates: a date's number taken apart is the date, and which numbers have a date. Assumes nothing.
use mathlib.Core.Path.{◌≡◌, refl, ◌∙◌, sym, ap, subst}
use mathlib.Core.Bool.{Bool, true, false, cond, ◌&&◌}
use Prim.Native.Nat.{ℕ, zero, suc, ◌+◌, ◌-◌, ◌*◌, ◌/◌, ◌%◌, ◌≤◌, ◌<◌}
use native.Mathlib.Omega.{arith}
use lib.Dec.{T}
use lib.IntN.{ℤ, pos, negsuc, neg_ℤ, nat_abs, ◌+ℤ◌, ◌-ℤ◌, ◌*ℤ◌}
use lib.Signed.{lt_z, le_z, quot_z, rem_z}
use Rattle.sign.specs.Halves.{up, dn}
use Rattle.sign.proofs.Laws.{same, ints, one_side, yes_lt, no_lt, yes_le, no_le, le-true, le-false}
use Rattle.rules.specs.Words.{minus, within_z, fits32}
use Rattle.rules.specs.Refusals.{Answer, Gives, Refused, RefusedAt, ◌then◌, demand, given}
use Rattle.rules.specs.Calendar.{MonthDay, month_length, month_day, day_of_year}
use Rattle.rules.specs.Kinds.{Kind, kR, kD, kH, kU, kE, kV, Fields, with_hour, hour_fits, fits_kind, of_kind}
use Rattle.rules.specs.Numbers.{on_day}
use Rattle.rules.specs.Days.{day_number_at, day_number, counts_days, difference, day_fields, summed, summed_hour, add_days}
use Rattle.rules.proofs.OnCalendar.CalendarLaws.{there_and_back, back-and-there, day-of-year-small, IsDay, is-day}
use Rattle.rules.proofs.OnKinds.KindLaws.{Fit, fit, fit-back, days-in, month-fits, keeps_months}
use Rattle.rules.proofs.OnDays.CountLaws.{range_gives, given-range}

-- ---- a date's day number, by its year and its day of year

-- taken apart
year-back : (y : ℤ) (d : ℕ) → d < 365 → quot_z (day_number_at y d) (pos 365) ≡ y
year-back (pos n) d h = rw (no_lt (pos n) (pos 0) (omega arith)) (same _ _ (simp ints (omega arith)))
year-back (negsuc n) d h = same _ _ (simp ints (omega arith))

day-back : (y : ℤ) (d : ℕ) → d < 365 → nat_abs (rem_z (day_number_at y d) (pos 365)) ≡ d
day-back (pos n) d h = rw (no_lt (pos n) (pos 0) (omega arith)) (simp ints (omega arith))
day-back (negsuc n) d h = simp ints (omega arith)

-- its bounds
number-low : (y : ℤ) (d : ℕ) → d < 365 → dn y ≤ 32768 → le_z (minus 11960684) (day_number_at y d) ≡ true
number-low (pos n) d h l = rw (no_lt (pos n) (pos 0) (omega arith)) (yes_le (minus 11960684) (pos 365 *ℤ pos n +ℤ pos d) (simp ints (omega arith)))
number-low (negsuc n) d h l = yes_le (minus 11960684) (day_number_at (negsuc n) d) (simp ints (omega arith))

number-high : (y : ℤ) (d : ℕ) → d < 365 → up y ≤ 32767 → le_z (day_number_at y d) (pos 11960319) ≡ true
number-high (pos n) d h l = rw (no_lt (pos n) (pos 0) (omega arith)) (yes_le (pos 365 *ℤ pos n +ℤ pos d) (pos 11960319) (simp ints (omega arith)))
number-high (negsuc n) d h l = yes_le (day_number_at (negsuc n) d) (pos 11960319) (simp ints (omega arith))

-- D, E and V keep the months' lengths
pub counter : (k : Kind) → counts_days k ≡ true → keeps_months k ≡ true
counter kR c = absurd (subst T (sym c) tt)
counter kD c = refl
counter kH c = absurd (subst T (sym c) tt)
counter kU c = absurd (subst T (sym c) tt)
counter kE c = refl
counter kV c = refl

-- ---- a number's date

-- a number in the range has a date
pub summed-in : (n : ℤ) (h : ℕ) → le_z (minus 11960684) n ≡ true → le_z n (pos 11960319) ≡ true → summed n h ≡ Gives (day_fields n h)
unfolding summed
summed-in n h a b =
    range_gives 11960684 11960319 (omega arith) (omega arith) (λ m. day_fields m h) n
    (omega (arith, le-true (minus 11960684) n a), omega (arith, le-true n (pos 11960319) b))

-- and no other
pub summed-only : (n : ℤ) (h : ℕ) → given (summed n h) ≡ true → (le_z (minus 11960684) n ≡ true) × (le_z n (pos 11960319) ≡ true)
unfolding summed
summed-only n h e =
    let r = given-range 11960684 11960319 (λ m. day_fields m h) n e in
    (yes_le (minus 11960684) n (omega (arith, r.0)), yes_le n (pos 11960319) (omega (arith, r.1)))

pub rem-small : (n : ℤ) → nat_abs (rem_z n (pos 365)) < 365
rem-small n = let o = one_side n in simp ints (omega arith)

-- the date of a number in the range is one of the kind
pub is-date : (k : Kind) → keeps_months k ≡ true → (n : ℤ) (h : ℕ) → le_z (minus 11960684) n ≡ true → le_z n (pos 11960319) ≡ true →
    hour_fits k h ≡ true → of_kind k (day_fields n h) ≡ true
unfolding day_fields
is-date k c n h a b e =
    let d = nat_abs (rem_z n (pos 365)) in
    let m = is-day d (rem-small n) in
    let l = le-true (minus 11960684) n a in
    let u = le-true n (pos 11960319) b in
    let o = one_side n in
    fit-back k (day_fields n h) (record {
      year-low = simp ints (omega arith);
      year-high = simp ints (omega arith);
      month-low = m.month-low;
      month-high = m.month-high;
      day-low = m.day-low;
      day-high = rw (days-in k c (month_day d).month) m.day-high;
      hour-fits = e;
    })

-- the number of a date, with an hour, is that date with that hour
pub date-back : (k : Kind) → counts_days k ≡ true → (f : Fields) → of_kind k f ≡ true → (h : ℕ) → summed (day_number f) h ≡ Gives (with_hour f h)
unfolding day_fields day_number
date-back k c f p h =
    let t = fit k f p in
    let m = month-fits k (counter k c) f p in
    let d = day_of_year f.month f.day in
    let s = day-of-year-small f.month f.day t.month-high t.day-low m in
    summed-in (day_number_at f.year d) h (number-low f.year d s t.year-low) (number-high f.year d s t.year-high)
    ∙ (λ i. Gives (on_day (year-back f.year d s i) (day-back f.year d s i) h))
    ∙ rw (back-and-there f.month f.day t.month-low t.month-high t.day-low m)

-- -364 to -1: "numbers no date has"
abbrev pub no_date : ℤ → Bool
no_date = within_z (minus 364) (minus 1)

-- a number that is none of these is that of its date
number-of-pos : (n : ℕ) → day_number_at (quot_z (pos n) (pos 365)) (nat_abs (rem_z (pos n) (pos 365))) ≡ pos n
number-of-pos n = rw (no_lt (pos (n / 365)) (pos 0) (omega arith)) (same _ _ (simp ints (omega arith)))

number-of-neg : (n : ℤ) → 364 < dn n → day_number_at (quot_z n (pos 365)) (nat_abs (rem_z n (pos 365))) ≡ n
number-of-neg n h =
    let o = one_side n in
    rw (yes_lt (quot_z n (pos 365)) (pos 0) (simp ints (omega arith))) (same _ _ (simp ints (omega arith)))

number_of : (n : ℤ) → no_date n ≡ false → day_number_at (quot_z n (pos 365)) (nat_abs (rem_z n (pos 365))) ≡ n
number_of (pos n) e = number-of-pos n
number_of (negsuc n) e = number-of-neg (negsuc n) (by (le_z (minus 364) (negsuc n)) refl e)
  where
    by : (t : Bool) → le_z (minus 364) (negsuc n) ≡ t → t && le_z (negsuc n) (minus 1) ≡ false → 364 < suc n
    by true p q = let l = le-false (negsuc n) (minus 1) q in absurd (omega arith)
    by false p q = let l = le-false (minus 364) (negsuc n) p in omega arith

pub number-of-date : (n : ℤ) (h : ℕ) → no_date n ≡ false → day_number (day_fields n h) ≡ n
unfolding day_fields day_number
number-of-date n h e = rw (there_and_back (nat_abs (rem_z n (pos 365))) (rem-small n)) (number_of n e)
