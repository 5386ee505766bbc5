-- The answers of the code, with document 01's number for each case. Assumes nothing.
use Rattle.std.specs.Prelude.{Option, Result}
use Rattle.rules.specs.Refusals.{Answer}
use Rattle.rules.specs.Kinds.{Stored}
use Rattle.refusals.specs.declared.Refusal.{Refusal}
use Rattle.kinds.specs.Views.{bits_of}
use Rattle.pds_date.specs.declared.Guessed.{Guessed}
use Rattle.pds_date.specs.Views as dates
use Rattle.vic3_date.specs.declared.Vic3Date.{Vic3Date}

abbrev pub bits : Vic3Date → Stored
bits d = bits_of d.raw

abbrev pub made_as : Option Vic3Date → Answer Stored
made_as r = dates.made_as bits r

abbrev pub parsed_as : Result Vic3Date Refusal → Answer Stored
parsed_as r = dates.parsed_as bits r

abbrev pub decoded_as : Option Vic3Date → Answer Stored
decoded_as r = dates.decoded_as bits r

abbrev pub guessed_as : Option (Guessed Vic3Date) → Answer Stored
guessed_as r = dates.guessed_as bits r

abbrev pub summed_as : Result Vic3Date Refusal → Answer Stored
summed_as r = dates.summed_as bits r
