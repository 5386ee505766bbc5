-- The day of year and (month, day) are inverse, and a year has 365 days. Each is one test that is computed. Assumes nothing.
use mathlib.Core.Path.{◌≡◌, refl}
use mathlib.Core.Bool.{Bool, ◌&&◌}
use Prim.Native.Nat.{ℕ, zero, suc, ◌+◌, ◌≤◌, ◌<◌}
use native.Mathlib.Omega.{arith}
use lib.Dec.{T, eqb, eqb→eq, ltb, ltb→lt, leb, leb→le}
use Rattle.rules.specs.Calendar.{MonthDay, lengths, month_length, sum_first, first_day, day_of_year, walk, month_day}
use Rattle.rules.proofs.Shared.Table.{left-yes, right-yes, upto, below}

pub year-length : sum_first 12 lengths ≡ 365
unfolding sum_first lengths
year-length = refl

back : ℕ → Bool
back d = eqb (day_of_year (month_day d).month (month_day d).day) d

-- a day of year, taken apart and put together again
pub there_and_back : (d : ℕ) → d < 365 → day_of_year (month_day d).month (month_day d).day ≡ d
unfolding back month_day walk lengths sum_first first_day day_of_year
there_and_back d h = eqb→eq _ _ (below back 365 tt d h)

-- whether x is this month and this day
abbrev same : MonthDay → ℕ → ℕ → Bool
same x m d = eqb x.month m && eqb x.day d

same-is : (x : MonthDay) (m d : ℕ) → T (same x m d) → x ≡ record { month = m; day = d }
same-is x m d t =
    let e : x.month ≡ m = eqb→eq x.month m (left-yes (eqb x.month m) (eqb x.day d) t) in
    let f : x.day ≡ d = eqb→eq x.day d (right-yes (eqb x.month m) (eqb x.day d) t) in
    λ i. record { month = e i; day = f i }

forth : ℕ → ℕ → Bool
forth m d = same (month_day (day_of_year (suc m) (suc d))) (suc m) (suc d)

months : ℕ → Bool
months m = upto (forth m) (month_length (suc m))

forth-and-back : (m d : ℕ) → m < 12 → d < month_length (suc m) →
    month_day (day_of_year (suc m) (suc d)) ≡ record { month = suc m; day = suc d }
unfolding months forth month_day walk lengths sum_first first_day day_of_year month_length
forth-and-back m d h l = same-is _ _ _ (below (forth m) (month_length (suc m)) (below months 12 tt m h) d l)

-- a month's day, put together and taken apart again
pub back-and-there : (m d : ℕ) → 1 ≤ m → m ≤ 12 → 1 ≤ d → d ≤ month_length m → month_day (day_of_year m d) ≡ record { month = m; day = d }
back-and-there zero d a b c e = absurd (omega arith)
back-and-there (suc m) zero a b c e = absurd (omega arith)
back-and-there (suc m) (suc d) a b c e = forth-and-back m d (omega arith) (omega arith)

-- ---- what the laws of days and kinds need of the calendar

short : ℕ → Bool
short m = leb (month_length m) 31

pub length-small : (m : ℕ) → m ≤ 12 → month_length m ≤ 31
unfolding short month_length lengths
length-small m h = leb→le (month_length m) 31 (below short 13 tt m (omega arith))

-- a month ends before a later one begins
ends : ℕ → ℕ → Bool
ends n m = leb (first_day m + month_length m) (first_day n)

pub months-follow : (m n : ℕ) → m < n → n ≤ 12 → first_day m + month_length m ≤ first_day n
unfolding ends first_day month_length sum_first lengths
months-follow m n h l = leb→le _ (first_day n) (below (ends n) n (below (λ k. upto (ends k) k) 13 tt n (omega arith)) m h)

-- the last day of year is 364
within-year : ℕ → Bool
within-year m = leb (first_day m + month_length m) 365

pub day-of-year-small : (m d : ℕ) → m ≤ 12 → 1 ≤ d → d ≤ month_length m → day_of_year m d < 365
unfolding within-year first_day month_length sum_first lengths day_of_year
day-of-year-small m d a b c = let h = leb→le (first_day m + month_length m) 365 (below within-year 13 tt m (omega arith)) in omega arith

-- a day of year is a day of a month
pub record IsDay (x : MonthDay) : Type 0 where
  pub month-low : 1 ≤ x.month
  pub month-high : x.month ≤ 12
  pub day-low : 1 ≤ x.day
  pub day-high : x.day ≤ month_length x.month

stands : MonthDay → Bool
stands x = leb 1 x.month && (leb x.month 12 && (leb 1 x.day && leb x.day (month_length x.month)))

stands-tells : (x : MonthDay) → T (stands x) → IsDay x
unfolding stands
stands-tells x t =
    let a = right-yes (leb 1 x.month) _ t in
    let b = right-yes (leb x.month 12) _ a in
    record {
      month-low = leb→le 1 _ (left-yes (leb 1 x.month) _ t);
      month-high = leb→le _ 12 (left-yes (leb x.month 12) _ a);
      day-low = leb→le 1 _ (left-yes (leb 1 x.day) _ b);
      day-high = leb→le _ _ (right-yes (leb 1 x.day) _ b);
    }

pub is-day : (d : ℕ) → d < 365 → IsDay (month_day d)
unfolding stands month_day walk month_length lengths
is-day d h = stands-tells (month_day d) (below (λ n. stands (month_day n)) 365 tt d h)
