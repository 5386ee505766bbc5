-- The answers of the code, with document 01's number for each case. Assumes nothing.
use Rattle.std.specs.Prelude.{Option, Result}
use Rattle.rules.specs.Refusals.{Answer}
use Rattle.rules.specs.Kinds.{Stored}
use Rattle.refusals.specs.declared.Refusal.{Refusal}
use Rattle.kinds.specs.Views.{bits_of}
use Rattle.pds_date.specs.Views as dates
use Rattle.uniform_date.specs.declared.UniformDate.{UniformDate}

abbrev pub bits : UniformDate → Stored
bits d = bits_of d.raw

abbrev pub made_as : Option UniformDate → Answer Stored
made_as r = dates.made_as bits r

abbrev pub parsed_as : Result UniformDate Refusal → Answer Stored
parsed_as r = dates.parsed_as bits r
