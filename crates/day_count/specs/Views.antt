-- The code's types as those of `rules`. Assumes nothing.
use Rattle.std.specs.Prelude.{◌≤◌, ℤ, ⊤, Option, Some, None, Result}
use Rattle.rules.specs.Refusals.{Answer, Gives, Refused, not_of_kind}
use Rattle.rules.specs.Calendar.{month_length}
use Rattle.rules.specs.Kinds.{Fields, Stored}
use Rattle.refusals.specs.declared.Refusal.{Refusal}
use Rattle.refusals.specs.Answers.{result_as}
use Rattle.kinds.specs.Views.{bits_of}
use Rattle.kinds.specs.declared.Packed.{Packed}
use Rattle.kinds.specs.declared.ExpandedRawDate.{ExpandedRawDate}

abbrev pub summed_as : Result Packed Refusal → Answer Stored
summed_as r = result_as bits_of r

-- what is answered of the number n, over the date of a number
abbrev pub judged_as : Result ⊤ Refusal → (ℤ → Fields) → ℤ → Answer Fields
judged_as r date n = result_as (λ _. date n) r

abbrev pub counted_as : Option ℤ → Answer ℤ
counted_as (Some n) = Gives n
counted_as None = Refused not_of_kind

abbrev pub start_as : Option Packed → Answer Stored
start_as (Some p) = Gives (bits_of p)
start_as None = Refused not_of_kind

-- a day of its month: every date of a kind that counts days is on one
abbrev pub OnCalendar : ExpandedRawDate → Type 0
OnCalendar e = (1 ≤ e.month) × (e.month ≤ 12) × (1 ≤ e.day) × (e.day ≤ month_length e.month)
