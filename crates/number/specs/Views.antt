-- The answers of the code, as those of `rules`. Assumes nothing.
use Rattle.std.specs.Prelude.{ℕ, ℤ, Option, Some, None}
use Rattle.rules.specs.Refusals.{Answer, Gives, Refused, not_number, not_of_kind}
use Rattle.rules.specs.Kinds.{Fields, Stored}
use Rattle.kinds.specs.declared.ExpandedRawDate.{ExpandedRawDate}
use Rattle.kinds.specs.declared.Packed.{Packed}
use Rattle.kinds.specs.Views.{fields_of, bits_of}
use Rattle.number.specs.declared.Guess.{Guess}

-- fields, or the refusal n
abbrev pub numbered_as : ℕ → Option ExpandedRawDate → Answer Fields
numbered_as n (Some e) = Gives (fields_of e)
numbered_as n None = Refused n

-- the hour of the fields, for the callers' arithmetic
abbrev pub hour_in : Option ExpandedRawDate → ℕ
hour_in (Some e) = e.hour
hour_in None = 0

abbrev pub read_as : Option Packed → Answer Stored
read_as (Some p) = Gives (bits_of p)
read_as None = Refused not_number

abbrev pub guessed_as : Option Guess → Answer Stored
guessed_as (Some g) = Gives (bits_of g.date)
guessed_as None = Refused not_number

abbrev pub written_as : Option ℤ → Answer ℤ
written_as (Some n) = Gives n
written_as None = Refused not_of_kind
