-- Reading back what D and H write gives the date, or refuses exactly for years below -5000 other than at 1 January (H: its hour 1).
-- Assumes nothing.
use mathlib.Core.Path.{◌≡◌, refl, ◌∙◌, sym, ap, subst}
use mathlib.Core.Bool.{Bool, true, false, cond, ◌&&◌, ◌||◌}
use Prim.Native.Nat.{ℕ, zero, suc, ◌+◌, ◌-◌, ◌*◌, ◌/◌, ◌%◌, ◌≤◌, ◌<◌}
use native.Mathlib.Omega.{arith}
use borrow.Author.Tests.{eqb-true, eq-eqb}
use lib.Dec.{T, eqb}
use lib.IntN.{ℤ, pos, negsuc, nat_abs, sub_ℕ, ◌+ℤ◌, ◌*ℤ◌}
use lib.Signed.{le_z}
use Rattle.sign.specs.Halves.{up, dn}
use Rattle.sign.proofs.Laws.{same, ints, one_side, yes_le, no_le}
use Rattle.rules.specs.Words.{minus}
use Rattle.rules.specs.Refusals.{Answer, Gives, Refused, ◌then◌, demand, not_number}
use Rattle.rules.specs.Calendar.{MonthDay, lengths, month_length, walk, month_day, sum_first, first_day, day_of_year}
use Rattle.rules.specs.Kinds.{Kind, kR, kD, kH, kU, kE, kV, Fields, with_hour, fits_kind, of_kind, made, settled, settled_hour, hour_fits, least_hour}
use Rattle.rules.specs.Numbers.{on_day, number_fields, reads_numbers, decoded_hour, decoded, read_number, new_year, straight, writes_numbers, written_hour, write_number}
use Rattle.rules.proofs.OnCalendar.CalendarLaws.{back-and-there, day-of-year-small}
use Rattle.rules.proofs.OnKinds.KindLaws.{Fit, fit, month-fits, keeps_months, left, right, low, high}
use Rattle.rules.proofs.OnNumbers.NumberLaws.{Stands, fields_at, fields-refused}

-- ---- the fields of a number, by what D and H write

-- of a number that is not negative: n years after -5000, the day of year, the hour
above : (r n d h : ℕ) → n ≤ 37767 → d < 365 → h < 24 → number_fields r (pos (24 * (365 * n + d) + h)) ≡ Gives (on_day (sub_ℕ n 5000) d h)
above r n d h a b c =
    fields_at r (pos (24 * (365 * n + d) + h)) (sub_ℕ n 5000) d h
    (record { hour = omega arith; day = omega arith; low = omega arith; high = omega arith })
    (same _ _ (simp ints (omega arith))) (omega arith) (omega arith)

-- of the first hour of a year before -5000
below : (r n : ℕ) → n ≤ 27768 → number_fields r (minus (8760 * n)) ≡ Gives (on_day (sub_ℕ 0 (n + 5000)) 0 0)
below r n a =
    fields_at r (minus (8760 * n)) (sub_ℕ 0 (n + 5000)) 0 0
    (simp ints (record { hour = omega arith; day = omega arith; low = omega arith; high = omega arith }))
    (same _ _ (simp ints (omega arith))) (simp ints (omega arith)) (simp ints (omega arith))

-- ---- reading back what D and H write

-- what each of the two writes of its hour
record Written (k : Kind) (h : ℕ) : Type 0 where
  back : settled_hour k (decoded_hour k (written_hour k h)) ≡ h
  small : written_hour k h < 24
  from : h ≡ least_hour k + written_hour k h

written : (k : Kind) → writes_numbers k ≡ true → (h : ℕ) → hour_fits k h ≡ true → Written k h
written kR w h e = absurd (subst T (sym w) tt)
written kD w h e = let x = eqb-true h 0 e in record { back = sym x; small = omega arith; from = omega arith }
written kH w h e =
    let a = low 1 24 h e in let b = high 1 24 h e in record { back = omega arith; small = omega arith; from = omega arith }
written kU w h e = absurd (subst T (sym w) tt)
written kE w h e = absurd (subst T (sym w) tt)
written kV w h e = absurd (subst T (sym w) tt)

-- the date that is read from what was written of it
comes_back_lem : (k : Kind) → writes_numbers k ≡ true → (f : Fields) → of_kind k f ≡ true →
    decoded k (with_hour f (written_hour k f.hour)) ≡ Gives f
unfolding decoded settled made
comes_back_lem k w f p = rw ((written k w f.hour (fit k f p).hour-fits).back, p)

-- ---- the law

-- the dates that come back: from year -5000 on, and before it 1 January at the kind's first hour
abbrev pub comes_back : Kind → Fields → Bool
comes_back k f = le_z (minus 5000) f.year || new_year (least_hour k) f

-- 1 January is day of year 0, and no other day is
first-day : (m d : ℕ) → 1 ≤ m → m ≤ 12 → 1 ≤ d → d ≤ month_length m → day_of_year m d ≡ 0 → (m ≡ 1) × (d ≡ 1)
unfolding month_day walk lengths
first-day m d a b c e z =
    let x : ◌≡◌ {A = MonthDay} (record { month = 1; day = 1 }) (record { month = m; day = d }) = rw z at (back-and-there m d a b c e) in
    (sym (ap (λ y. y.month) x), sym (ap (λ y. y.day) x))

new-year-day : day_of_year 1 1 ≡ 0
unfolding day_of_year first_day sum_first
new-year-day = refl

-- the kinds that write numbers read them, and keep the months' lengths
pub writer : (k : Kind) → writes_numbers k ≡ true → (reads_numbers k ≡ true) × (keeps_months k ≡ true)
writer kR w = absurd (subst T (sym w) tt)
writer kD w = (refl, refl)
writer kH w = (refl, refl)
writer kU w = absurd (subst T (sym w) tt)
writer kE w = absurd (subst T (sym w) tt)
writer kV w = absurd (subst T (sym w) tt)

module _ (k : Kind) (w : writes_numbers k ≡ true) (f : Fields) (p : of_kind k f ≡ true) where
  fits : f.day ≤ month_length f.month
  fits = month-fits k (writer k w).1 f p

  small : day_of_year f.month f.day < 365
  small = let t = fit k f p in day-of-year-small f.month f.day t.month-high t.day-low fits

  -- the date is read from a number with its year, its day of year and its written hour
  reads : (s : ℤ) → number_fields not_number s ≡ Gives (on_day f.year (day_of_year f.month f.day) (written_hour k f.hour)) →
      read_number k s ≡ Gives f
  unfolding read_number
  reads s e =
      let t = fit k f p in
      rw ((writer k w).0, e, back-and-there f.month f.day t.month-low t.month-high t.day-low fits) (comes_back_lem k w f p)

  from-5000 : (n : ℕ) → f.year +ℤ pos 5000 ≡ pos n → read_number k (straight f (written_hour k f.hour)) ≡ demand (comes_back k f) not_number (Gives f)
  unfolding straight
  from-5000 n e =
      let t = fit k f p in
      let h = written k w f.hour t.hour-fits in
      let u = simp ints at (ap up e) in let d = simp ints at (ap dn e) in
      let y : sub_ℕ n 5000 ≡ f.year = same _ _ (simp ints (omega arith)) in
      rw (e, yes_le (minus 5000) f.year (omega arith))
      (reads _ (rw (above not_number n (day_of_year f.month f.day) (written_hour k f.hour) (omega arith) small h.small, y)))

  -- before -5000: how far below 0 the number lies
  depth : (n : ℕ) → f.year +ℤ pos 5000 ≡ negsuc n →
      dn (straight f (written_hour k f.hour)) ≡ 8760 * suc n - 24 * day_of_year f.month f.day - written_hour k f.hour
  unfolding straight
  depth n e = let h = written k w f.hour (fit k f p).hour-fits in let s = small in rw e (simp ints (omega arith))

  -- at 1 January, at the kind's first hour, it lies whole years below
  whole-years : (n : ℕ) → f.year +ℤ pos 5000 ≡ negsuc n → day_of_year f.month f.day ≡ 0 → written_hour k f.hour ≡ 0 →
      straight f (written_hour k f.hour) ≡ minus (8760 * suc n)
  unfolding straight
  whole-years n e a b = rw (e, a, b) (same _ _ (simp ints (omega arith)))

  first-hour : (n : ℕ) → f.year +ℤ pos 5000 ≡ negsuc n → new_year (least_hour k) f ≡ true →
      read_number k (straight f (written_hour k f.hour)) ≡ Gives f
  first-hour n e b =
      let md = left (eqb f.month 1 && eqb f.day 1) (eqb f.hour (least_hour k)) b in
      let m = eqb-true f.month 1 (left (eqb f.month 1) (eqb f.day 1) md) in
      let d = eqb-true f.day 1 (right (eqb f.month 1) (eqb f.day 1) md) in
      let o = eqb-true f.hour (least_hour k) (right (eqb f.month 1 && eqb f.day 1) (eqb f.hour (least_hour k)) b) in
      let t = fit k f p in
      let h = written k w f.hour t.hour-fits in
      let day : day_of_year f.month f.day ≡ 0 = rw (m, d) new-year-day in
      let hour : written_hour k f.hour ≡ 0 = omega arith in
      let u = simp ints at (ap up e) in let v = simp ints at (ap dn e) in
      let y : sub_ℕ 0 (suc n + 5000) ≡ f.year = same _ _ (simp ints (omega arith)) in
      reads _ (rw (whole-years n e day hour, below not_number (suc n) (omega arith), y, day, hour))

  other-hour : (n : ℕ) → f.year +ℤ pos 5000 ≡ negsuc n → new_year (least_hour k) f ≡ false →
      read_number k (straight f (written_hour k f.hour)) ≡ Refused not_number
  unfolding read_number
  other-hour n e b =
      rw ((writer k w).0, fields-refused not_number (straight f (written_hour k f.hour)) (λ z. clash (rw (depth n e) at z)))
    where
      clash : (8760 * suc n - 24 * day_of_year f.month f.day - written_hour k f.hour) % 8760 ≡ 0 → ⊥
      clash z =
          let t = fit k f p in
          let h = written k w f.hour t.hour-fits in
          let s = small in
          let day : day_of_year f.month f.day ≡ 0 = omega arith in
          let md = first-day f.month f.day t.month-low t.month-high t.day-low fits day in
          let o : f.hour ≡ least_hour k = omega arith in
          let yes : new_year (least_hour k) f ≡ true = rw (eq-eqb f.month 1 md.0, eq-eqb f.day 1 md.1, eq-eqb f.hour (least_hour k) o) in
          subst T (sym yes ∙ b) tt

  before : (n : ℕ) → f.year +ℤ pos 5000 ≡ negsuc n → read_number k (straight f (written_hour k f.hour)) ≡ demand (comes_back k f) not_number (Gives f)
  before n e = let u = simp ints at (ap up e) in let d = simp ints at (ap dn e) in
      rw (no_le (minus 5000) f.year (omega arith)) (split (new_year (least_hour k) f) refl)
    where
      split : (b : Bool) → new_year (least_hour k) f ≡ b → read_number k (straight f (written_hour k f.hour)) ≡ demand b not_number (Gives f)
      split true q = first-hour n e q
      split false q = other-hour n e q

pub number-back : (k : Kind) → writes_numbers k ≡ true → (f : Fields) → of_kind k f ≡ true →
    (write_number k f then read_number k) ≡ demand (comes_back k f) not_number (Gives f)
unfolding write_number
number-back k w f p = rw w (by (f.year +ℤ pos 5000) refl)
  where
    by : (z : ℤ) → f.year +ℤ pos 5000 ≡ z → read_number k (straight f (written_hour k f.hour)) ≡ demand (comes_back k f) not_number (Gives f)
    by (pos n) e = from-5000 k w f p n e
    by (negsuc n) e = before k w f p n e
