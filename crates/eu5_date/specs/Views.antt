-- The answers of the code, with document 01's number for each case. Assumes nothing.
use Rattle.std.specs.Prelude.{ℕ, Option, Result}
use Rattle.rules.specs.Refusals.{Answer, not_of_kind}
use Rattle.rules.specs.Kinds.{Stored}
use Rattle.refusals.specs.declared.Refusal.{Refusal}
use Rattle.refusals.specs.Answers.{option_as}
use Rattle.kinds.specs.Views.{bits_of}
use Rattle.pds_date.specs.declared.Guessed.{Guessed}
use Rattle.pds_date.specs.Views as dates
use Rattle.eu5_date.specs.declared.Eu5Date.{Eu5Date}

abbrev pub bits : Eu5Date → Stored
bits d = bits_of d.raw

abbrev pub made_as : Option Eu5Date → Answer Stored
made_as r = dates.made_as bits r

abbrev pub parsed_as : Result Eu5Date Refusal → Answer Stored
parsed_as r = dates.parsed_as bits r

abbrev pub decoded_as : Option Eu5Date → Answer Stored
decoded_as r = dates.decoded_as bits r

abbrev pub guessed_as : Option (Guessed Eu5Date) → Answer Stored
guessed_as r = dates.guessed_as bits r

abbrev pub summed_as : Result Eu5Date Refusal → Answer Stored
summed_as r = dates.summed_as bits r

abbrev pub started_as : Option Eu5Date → Answer Stored
started_as r = option_as not_of_kind bits r

abbrev pub in_game_as : Option ℕ → Answer ℕ
in_game_as r = option_as not_of_kind (λ h. h) r
