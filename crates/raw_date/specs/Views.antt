-- The answers of the code, with document 01's number for each case. Assumes nothing.
use Rattle.std.specs.Prelude.{Option, Result}
use Rattle.rules.specs.Refusals.{Answer}
use Rattle.rules.specs.Kinds.{Stored}
use Rattle.refusals.specs.declared.Refusal.{Refusal}
use Rattle.kinds.specs.Views.{bits_of}
use Rattle.pds_date.specs.Views as dates
use Rattle.raw_date.specs.declared.RawDate.{RawDate}

abbrev pub bits : RawDate → Stored
bits d = bits_of d.raw

abbrev pub made_as : Option RawDate → Answer Stored
made_as r = dates.made_as bits r

abbrev pub parsed_as : Result RawDate Refusal → Answer Stored
parsed_as r = dates.parsed_as bits r

abbrev pub decoded_as : Option RawDate → Answer Stored
decoded_as r = dates.decoded_as bits r
