-- The fields of a number, over its two naturals; then the full decoder and the guess, by their tests. Assumes nothing.
use mathlib.Core.Path.{◌≡◌, refl, ◌∙◌, sym, ap, subst}
use mathlib.Core.Bool.{Bool, true, false}
use Prim.Native.Nat.{ℕ, ◌+◌, ◌/◌, ◌%◌, ◌≤◌, ◌<◌}
use native.Mathlib.Omega.{arith}
use lib.Dec.{T}
use lib.IntN.{ℤ, nat_abs, sub_ℕ}
use mir.Syntax.{w32}
use mir.Val.{to_z, of_z, SFits}
use mir.Facts.{to_z-of_z}
use Rattle.sign.specs.Halves.{Halved}
use Rattle.sign.proofs.Laws.{same, ints, one_side}
use Rattle.rules.specs.Refusals.{Answer, Gives, Refused, demand, given, not_number, not_of_kind}
use Rattle.rules.specs.Calendar.{lengths, month_length, walk, month_day, day_of_year}
use Rattle.rules.specs.Kinds.{Kind, kR, kD, kH, kU, kE, kV, Fields, Stored, days_in, store_guess, store, handed, of_date}
use Rattle.rules.specs.Numbers.{on_day, hour_of, day_of, year_of, has_fields, number_fields, reads_numbers, decoded, read_number, guesses, guessed, guess_number, straight_at, straight, writes_numbers, written_hour, write_number}
use Rattle.rules.proofs.OnRefusals.Determined.{back_by}
use Rattle.rules.proofs.OnCalendar.CalendarLaws.{IsDay, is-day, length-small}
use Rattle.rules.proofs.OnKinds.KindLaws.{fit, month-fits}
use Rattle.rules.proofs.OnKinds.PackLaws.{handed-tells, lacking}
use Rattle.rules.proofs.OnNumbers.NumberBack.{writer}
use Rattle.rules.proofs.OnNumbers.NumberLaws.{Stands, fields_at, no_fields}
use Rattle.std.specs.Prelude.{Option}
use Rattle.kinds.specs.declared.ExpandedRawDate.{ExpandedRawDate}
use Rattle.kinds.specs.declared.Packed.{Packed}
use Rattle.number.specs.declared.Guess.{Guess}
use Rattle.number.specs.Views.{numbered_as, read_as, guessed_as}

module _ (n : ℕ) {s : ℤ} {u d : ℕ} (h : Halved 2147483647 s u d) where
  pub none : (Stands u d → ⊥) → Refused n ≡ number_fields n s
  none never = sym (no_fields n s (λ t. never (rw (h.up_is, h.dn-is) at t)))

  pub some : {y : ℤ} {a b : ℕ} → Stands u d → y ≡ sub_ℕ (u / 8760) (d / 8760 + 5000) → a ≡ (month_day (u / 24 % 365)).month → b ≡ (month_day (u / 24 % 365)).day →
      ◌≡◌ {A = Answer Fields} (Gives (record { year = y; month = a; day = b; hour = u % 24 })) (number_fields n s)
  some t y-is a-is b-is =
      (λ i. Gives (record { year = y-is i; month = a-is i; day = b-is i; hour = u % 24 }))
      ∙ sym (fields_at n s (sub_ℕ (u / 8760) (d / 8760 + 5000)) (u / 24 % 365) (u % 24) (rw (h.up_is, h.dn-is) t) year day hour)
    where
      year : year_of s ≡ sub_ℕ (u / 8760) (d / 8760 + 5000)
      year = same _ _ (simp (ints, h.up_is, h.dn-is) (omega arith))

      day : nat_abs (day_of s) ≡ u / 24 % 365
      day = simp (ints, h.up_is, h.dn-is) (omega arith)

      hour : nat_abs (hour_of s) ≡ u % 24
      hour = simp (ints, h.up_is, h.dn-is) (omega arith)

  -- below 0 a number that stands is the first hour of its year
  pub below : {y : ℤ} → 0 < d → Stands u d → y ≡ sub_ℕ 0 (d / 8760 + 5000) →
      ◌≡◌ {A = Answer Fields} (Gives (record { year = y; month = 1; day = 1; hour = 0 })) (number_fields n s)
  unfolding month_day walk lengths
  below {y} low t y-is = rw none-up at (some {y = y} {a = (month_day (u / 24 % 365)).month} {b = (month_day (u / 24 % 365)).day} t (rw none-up y-is) refl refl)
    where
      none-up : u ≡ 0
      none-up = omega (arith, h.one)

-- ---- a number's fields have a day of the calendar, and so one of each kind that reads numbers

abbrev pub DayOf : Kind → Fields → Type 0
DayOf k f = (1 ≤ f.month) × (f.month ≤ 12) × (1 ≤ f.day) × (f.day ≤ days_in k f.month)

day-of : (k : Kind) (f : Fields) → reads_numbers k ≡ true → IsDay (record { month = f.month; day = f.day }) → DayOf k f
day-of kR f a i = (i.month-low, i.month-high, i.day-low, omega (arith, length-small f.month i.month-high, i.day-high))
day-of kD f a i = (i.month-low, i.month-high, i.day-low, i.day-high)
day-of kH f a i = (i.month-low, i.month-high, i.day-low, i.day-high)
day-of kU f a i = absurd (subst T (sym a) tt)
day-of kE f a i = (i.month-low, i.month-high, i.day-low, i.day-high)
day-of kV f a i = (i.month-low, i.month-high, i.day-low, i.day-high)

pub day-read : (k : Kind) (n : ℕ) (s : ℤ) (f : Fields) → reads_numbers k ≡ true → number_fields n s ≡ Gives f → DayOf k f
unfolding number_fields
day-read k n s f a e = by (has_fields s) e
  where
    small : nat_abs (day_of s) < 365
    small = simp ints (omega (arith, one_side s))

    found : Fields
    found = on_day (year_of s) (nat_abs (day_of s)) (nat_abs (hour_of s))

    by : (t : Bool) → demand t n (Gives found) ≡ Gives f → DayOf k f
    by true e = subst (DayOf k) (ap (back_by (λ g. g) (λ m. f)) e) (day-of k found a (is-day (nat_abs (day_of s)) small))
    by false e = absurd (subst T (sym (ap given e)) tt)

-- every kind that guesses reads
pub guess-reads : (k : Kind) → guesses k ≡ true → reads_numbers k ≡ true
guess-reads kR e = refl
guess-reads kD e = refl
guess-reads kH e = refl
guess-reads kU e = e
guess-reads kE e = refl
guess-reads kV e = refl

-- ---- the full decoder and the guess, by their tests

-- what the code tells of a number's fields is what it has
pub fields-told : {s : ℤ} {r q : Option ExpandedRawDate} → SFits w32 s →
    ((n : ℕ) → numbered_as n r ≡ number_fields n (to_z w32 (of_z w32 s))) → r ≡ q → number_fields not_number s ≡ numbered_as not_number q
fields-told fits is same = sym (rw (to_z-of_z fits) at (is not_number)) ∙ ap (numbered_as not_number) same

module _ (k : Kind) (s : ℤ) where
  pub read_none : reads_numbers k ≡ true → number_fields not_number s ≡ Refused not_number → read_number k s ≡ Refused not_number
  unfolding read_number
  read_none a e = rw (a, e)

  pub read_some : (f : Fields) → reads_numbers k ≡ true → number_fields not_number s ≡ Gives f → read_number k s ≡ decoded k f
  unfolding read_number
  read_some f a e = rw (a, e)

  pub guess-none : guesses k ≡ true → number_fields not_number s ≡ Refused not_number → guess_number k s ≡ Refused not_number
  unfolding guess_number
  guess-none a e = rw (a, e)

  pub guess-some : (f : Fields) {t : Bool} → guesses k ≡ true → number_fields not_number s ≡ Gives f → guessed k f ≡ t →
      guess_number k s ≡ demand t not_number (decoded k f)
  unfolding guess_number
  guess-some f a e g = rw (a, e, g)

-- ---- the way back, of a date handed in

module _ (k : Kind) (d : Stored) where
  abbrev pub wrote : Answer ℤ
  wrote = of_date k d (λ f. write_number k f)

  pub write-lacks : writes_numbers k ≡ false → wrote ≡ Refused not_of_kind
  unfolding write_number
  write-lacks a = rw a (lacking k d)

  pub write-some : (f : Fields) → writes_numbers k ≡ true → handed k d ≡ Gives f →
      wrote ≡ Gives (straight_at f.year (day_of_year f.month f.day) (written_hour k f.hour))
  unfolding write_number straight
  write-some f a e = rw (e, a)

  -- its month and its day are the calendar's
  pub calendar-day : (f : Fields) → writes_numbers k ≡ true → handed k d ≡ Gives f →
      (1 ≤ f.month) × (f.month ≤ 12) × (1 ≤ f.day) × (f.day ≤ month_length f.month)
  calendar-day f a e =
      let o = (handed-tells k d f e).of-kind in
      let t = fit k f o in
      (t.month-low, t.month-high, t.day-low, month-fits k (writer k a).1 f o)

-- ---- a kind's answer, from the core's: the number comes to it as 32 bits

pub read-answers : (k : Kind) {s : ℤ} {read r : Option Packed} → SFits w32 s →
    read_as read ≡ store (read_number k (to_z w32 (of_z w32 s))) → read ≡ r → read_as r ≡ store (read_number k s)
read-answers k fits is same = ap read_as (sym same) ∙ (rw (to_z-of_z fits) at is)

pub guess-answers : (k : Kind) {s : ℤ} {guess r : Option Guess} → SFits w32 s →
    guessed_as guess ≡ store_guess (guess_number k (to_z w32 (of_z w32 s))) → guess ≡ r → guessed_as r ≡ store_guess (guess_number k s)
guess-answers k fits is same = ap guessed_as (sym same) ∙ (rw (to_z-of_z fits) at is)
