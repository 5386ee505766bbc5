-- What the fields of a date of a kind have, by name. Assumes nothing.
use mathlib.Core.Path.{◌≡◌, refl, sym, subst}
use mathlib.Core.Bool.{Bool, true, false, ◌&&◌, and-eq-true_iff}
use Prim.Native.Nat.{ℕ, ◌≤◌}
use native.Mathlib.Omega.{arith}
use borrow.Author.Tests.{leb-true, le-leb}
use lib.Dec.{T, leb}
use lib.IntN.{pos}
use lib.Signed.{le_z}
use Rattle.sign.specs.Halves.{up, dn}
use Rattle.sign.proofs.Laws.{one_side, le-true, yes_le}
use Rattle.rules.specs.Words.{within, minus, fits16}
use Rattle.rules.specs.Calendar.{month_length}
use Rattle.rules.specs.Kinds.{Kind, kR, kD, kH, kU, kE, kV, Fields, with_hour, days_in, hour_fits, fits_kind, of_kind}

-- ---- what a date of a kind has, by name

pub record Fit (k : Kind) (f : Fields) : Type 0 where
  pub year-low : dn f.year ≤ 32768
  pub year-high : up f.year ≤ 32767
  pub month-low : 1 ≤ f.month
  pub month-high : f.month ≤ 12
  pub day-low : 1 ≤ f.day
  pub day-high : f.day ≤ days_in k f.month
  pub hour-fits : hour_fits k f.hour ≡ true

pub left : (a b : Bool) → a && b ≡ true → a ≡ true
left a b h = ((and-eq-true_iff a b).0 h).0

pub right : (a b : Bool) → a && b ≡ true → b ≡ true
right a b h = ((and-eq-true_iff a b).0 h).1

-- a test `lo ≤ n ≤ hi`, and back
pub low : (lo hi n : ℕ) → within lo hi n ≡ true → lo ≤ n
low lo hi n h = leb-true lo n (left (leb lo n) _ h)

pub high : (lo hi n : ℕ) → within lo hi n ≡ true → n ≤ hi
high lo hi n h = leb-true n hi (right (leb lo n) _ h)

pub yes-within : (lo hi n : ℕ) → lo ≤ n → n ≤ hi → within lo hi n ≡ true
yes-within lo hi n a b = rw (le-leb lo n a, le-leb n hi b)

pub fit : (k : Kind) (f : Fields) → of_kind k f ≡ true → Fit k f
unfolding fits_kind of_kind
fit k f h =
    let month = within 1 12 f.month in
    let day = within 1 (days_in k f.month) f.day in
    let y = left (fits16 f.year) (fits_kind k f.month f.day f.hour) h in
    let mdh = right (fits16 f.year) (fits_kind k f.month f.day f.hour) h in
    let md = left (month && day) (hour_fits k f.hour) mdh in
    let m = left month day md in
    let d = right month day md in
    let a = le-true (minus 32768) f.year (left (le_z (minus 32768) f.year) _ y) in
    let b = le-true f.year (pos 32767) (right (le_z (minus 32768) f.year) _ y) in
    record {
      year-low = omega (arith, one_side f.year);
      year-high = omega (arith, one_side f.year);
      month-low = low 1 12 f.month m;
      month-high = high 1 12 f.month m;
      day-low = low 1 (days_in k f.month) f.day d;
      day-high = high 1 (days_in k f.month) f.day d;
      hour-fits = right (month && day) (hour_fits k f.hour) mdh;
    }

pub fit-back : (k : Kind) (f : Fields) → Fit k f → of_kind k f ≡ true
unfolding fits_kind of_kind
fit-back k f t =
    rw (
      yes_le (minus 32768) f.year (omega arith),
      yes_le f.year (pos 32767) (omega arith),
      yes-within 1 12 f.month t.month-low t.month-high,
      yes-within 1 (days_in k f.month) f.day t.day-low t.day-high,
      t.hour-fits,
    )

-- a date with another hour of the kind is a date of the kind
pub with-hour : (k : Kind) (f : Fields) (h : ℕ) → of_kind k f ≡ true → hour_fits k h ≡ true → of_kind k (with_hour f h) ≡ true
with-hour k f h p e =
    let t = fit k f p in
    fit-back k (with_hour f h) (record {
      year-low = t.year-low;
      year-high = t.year-high;
      month-low = t.month-low;
      month-high = t.month-high;
      day-low = t.day-low;
      day-high = t.day-high;
      hour-fits = e;
    })

-- D, H, E and V keep the months' lengths
abbrev pub keeps_months : Kind → Bool
keeps_months kR = false
keeps_months kD = true
keeps_months kH = true
keeps_months kU = false
keeps_months kE = true
keeps_months kV = true

pub days-in : (k : Kind) → keeps_months k ≡ true → (m : ℕ) → days_in k m ≡ month_length m
days-in kR e m = absurd (subst T (sym e) tt)
days-in kD e m = refl
days-in kH e m = refl
days-in kU e m = absurd (subst T (sym e) tt)
days-in kE e m = refl
days-in kV e m = refl

pub month-fits : (k : Kind) → keeps_months k ≡ true → (f : Fields) → of_kind k f ≡ true → f.day ≤ month_length f.month
month-fits k e f p = rw (days-in k e f.month) at (fit k f p).day-high
