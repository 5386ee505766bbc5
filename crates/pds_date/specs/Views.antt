-- The answers of the code, by the bits of a kind's dates, with document 01's number for each case. Assumes nothing.
use Rattle.std.specs.Prelude.{Option, Result}
use Rattle.rules.specs.Refusals.{Answer, not_number, not_of_kind}
use Rattle.rules.specs.Kinds.{Stored}
use Rattle.refusals.specs.declared.Refusal.{Refusal}
use Rattle.refusals.specs.Answers.{result_as, option_as}
use Rattle.pds_date.specs.declared.Guessed.{Guessed}

abbrev pub made_as : {T : Type 0} → (T → Stored) → Option T → Answer Stored
made_as bits r = option_as not_of_kind bits r

abbrev pub parsed_as : {T : Type 0} → (T → Stored) → Result T Refusal → Answer Stored
parsed_as bits r = result_as bits r

abbrev pub decoded_as : {T : Type 0} → (T → Stored) → Option T → Answer Stored
decoded_as bits r = option_as not_number bits r

abbrev pub guessed_as : {T : Type 0} → (T → Stored) → Option (Guessed T) → Answer Stored
guessed_as bits r = option_as not_number (λ g. bits g.date) r

abbrev pub summed_as : {T : Type 0} → (T → Stored) → Result T Refusal → Answer Stored
summed_as bits r = result_as bits r
