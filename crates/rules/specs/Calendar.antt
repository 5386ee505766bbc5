-- Document 01, "Fields and kinds" (the month lengths) and "Numbers to dates and back" (the day of year): a year with no leap day.
-- Assumes nothing.
use Rattle.std.specs.Prelude.{ℕ, zero, suc, ◌+◌, ◌-◌, cond, List, [], ◌∷◌, ltb, get_or}

-- "Month lengths are 31, 28, 31, 30, 31, 30, 31, 31, 30, 31, 30, 31": January first
unfoldable pub lengths : List ℕ
lengths = 31 ∷ 28 ∷ 31 ∷ 30 ∷ 31 ∷ 30 ∷ 31 ∷ 31 ∷ 30 ∷ 31 ∷ 30 ∷ 31 ∷ []

-- the length of a month by its number, 1 to 12; 0 of what is no month
unfoldable pub month_length : ℕ → ℕ
month_length zero = 0
month_length (suc m) = get_or lengths m 0

-- the sum of the first n of these lengths
unfoldable pub sum_first : ℕ → List ℕ → ℕ
sum_first zero ls = 0
sum_first (suc n) [] = 0
sum_first (suc n) (l ∷ ls) = l + sum_first n ls

-- the day of year of a month's first day: "the month's first day is chosen by its number, 1 to 12"
unfoldable pub first_day : ℕ → ℕ
first_day zero = 0
first_day (suc m) = sum_first m lengths

-- "Day of year runs from 0": 1 January is day of year 0
unfoldable pub day_of_year : ℕ → ℕ → ℕ
day_of_year month day = first_day month + day - 1

pub record MonthDay : Type 0 where
  pub month : ℕ
  pub day : ℕ

-- the month and the day that lie d days after the first day of month m, the lengths from m on being these
unfoldable pub walk : ℕ → List ℕ → ℕ → MonthDay
walk m [] d = record { month = m; day = d + 1 }
walk m (l ∷ ls) d = cond (ltb d l) (record { month = m; day = d + 1 }) (walk (suc m) ls (d - l))

-- "from day of year to month and day"
unfoldable pub month_day : ℕ → MonthDay
month_day d = walk 1 lengths d
