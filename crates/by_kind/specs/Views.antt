-- The answer of the code, as that of `rules`. Assumes nothing.
use Rattle.std.specs.Prelude.{Result}
use Rattle.rules.specs.Refusals.{Answer}
use Rattle.rules.specs.Kinds.{Stored}
use Rattle.refusals.specs.declared.Refusal.{Refusal}
use Rattle.refusals.specs.Answers.{result_as}
use Rattle.kinds.specs.declared.Packed.{Packed}
use Rattle.kinds.specs.Views.{bits_of}

abbrev pub parsed_as : Result Packed Refusal → Answer Stored
parsed_as r = result_as bits_of r
