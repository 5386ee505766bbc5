-- What is told of an operation on a table, as a value or a refusal. Assumes nothing.
use Rattle.std.specs.Prelude.{ℕ, Bool, true, false, Result, Ok, Err}
use Rattle.rules.specs.Refusals.{Answer}
use Rattle.requests.specs.FieldTable.{Declared}
use Rattle.refusals.specs.declared.Refusal.{Refusal}
use Rattle.refusals.specs.Answers.{result_as}
use Rattle.field_table.specs.Views.{Bits, declared_as, bits_in}
use Rattle.script.specs.declared.table_answers.Told.{Told}
use Rattle.script.specs.declared.table_answers.Told.TheVariants as T

-- what an operation gives: nothing to tell, a number of entries, an entry, or a date that was looked up
pub data Value : Type 0 where
  Done : Value
  Number : ℕ → Value
  Declares : Declared → Value
  Dated : Bits → Value

abbrev pub value_of : Told → Value
value_of T.Done = Done
value_of (T.Number n) = Number n
value_of (T.Entry e) = Declares (declared_as e)
value_of (T.Dated l) = Dated (bits_in l)

abbrev pub told_as : Result Told Refusal → Answer Value
told_as = result_as value_of

-- whether a number is told, and no refusal
abbrev pub is_number : Result Told Refusal → Bool
is_number (Ok T.Done) = false
is_number (Ok (T.Number n)) = true
is_number (Ok (T.Entry e)) = false
is_number (Ok (T.Dated l)) = false
is_number (Err refusal) = false
