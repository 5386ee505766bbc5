-- What is told of a leaf's answer, and what the definitions answer. Assumes nothing.
use Rattle.std.specs.Prelude.{ℕ, ◌-◌, cond, List, ltb, ℤ, length, Option, Some, None}
use Rattle.std.proofs.Math.IntN.{sub_ℕ}
use Rattle.rules.specs.Refusals.{Answer, Gives, Refused, ◌then◌, not_text, not_of_kind}
use Rattle.rules.specs.Calendar.{month_day}
use Rattle.rules.specs.Numbers.{straight_at}
use Rattle.scalar.specs.Number.{leading_number}
use Rattle.util.specs.Word.{bytes_of}
use Rattle.util.specs.Parse.{parsed}
use Rattle.julian.specs.First.{first_day_of}
use Rattle.replay.specs.declared.leaves.LeafTold.{LeafTold}
use Rattle.replay.specs.declared.leaves.LeafTold.TheVariants as T

-- what is told where nothing is refused
pub data LeafValue : Type 0 where
  Led : ℤ → ℕ → LeafValue
  Digits : ℕ → LeafValue
  NoDigits : LeafValue
  InMonth : ℕ → ℕ → LeafValue
  Unasked : LeafValue
  Counted : ℤ → LeafValue

abbrev pub leaf_told_as : LeafTold → Answer LeafValue
leaf_told_as (T.Leading value rest) = Gives (Led value rest)
leaf_told_as T.NoLeading = Refused not_text
leaf_told_as (T.Digits value) = Gives (Digits value)
leaf_told_as T.NoDigits = Gives NoDigits
leaf_told_as (T.MonthDay month day) = Gives (InMonth month day)
leaf_told_as T.Unasked = Gives Unasked
leaf_told_as (T.Number n) = Gives (Counted n)
leaf_told_as T.NoMonth = Refused not_of_kind

-- the leading number of a text, and how many bytes follow it
abbrev pub leading_answer : List ℕ → Answer LeafValue
leading_answer s = leading_number s then λ r. Gives (Led r.value (length r.rest))

-- the number of eight digits, as `util` defines it, or that there is none
abbrev pub digits_given : Option ℕ → Answer LeafValue
digits_given (Some value) = Gives (Digits value)
digits_given None = Gives NoDigits

abbrev pub digits_answer : ℕ → Answer LeafValue
digits_answer word = digits_given (parsed (bytes_of 8 word))

abbrev pub month_day_answer : ℕ → Answer LeafValue
month_day_answer day = cond (ltb day 365) (Gives (InMonth (month_day day).month (month_day day).day)) (Gives Unasked)

-- the original counts the day before a month's first from 1
abbrev pub ordinal_answer : ℕ → Answer LeafValue
ordinal_answer month = first_day_of month then λ first. Gives (Counted (sub_ℕ first 1))

-- the original takes the hour from 1 and lowers it, 0 excepted
abbrev pub binary_answer : ℤ → ℕ → ℕ → Answer LeafValue
binary_answer year day hour = Gives (Counted (straight_at year day (hour - 1)))
