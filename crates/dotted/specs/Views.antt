-- The answers of the code, as what `rules` says of a text: a place stands for the rest of the text from there. Assumes nothing.
use Rattle.std.specs.Prelude.{ℕ, List, ℤ, drop, Option, Some, None}
use Rattle.rules.specs.Refusals.{Answer, Gives, Refused, not_text}
use Rattle.rules.specs.Kinds.{Fields}
use Rattle.rules.specs.Text.{Read}
use Rattle.dotted.specs.declared.Taken.{Taken}
use Rattle.dotted.specs.declared.Parts.{Parts}

-- a number, and what follows it in the text s
abbrev pub taken_as : List ℕ → Option Taken → Answer (Read ℕ)
taken_as s (Some t) = Gives (record { value = t.value; rest = drop t.next s })
taken_as s None = Refused not_text

abbrev pub hour_as : Option ℕ → Answer ℕ
hour_as (Some hour) = Gives hour
hour_as None = Refused not_text

-- fields of the year y
abbrev pub parts_as : ℤ → Option Parts → Answer Fields
parts_as y (Some p) = Gives (record { year = y; month = p.month; day = p.day; hour = p.hour })
parts_as y None = Refused not_text
