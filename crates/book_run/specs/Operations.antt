-- What is told of a book operation, and the buffer after it, by `rules`. Assumes nothing.
use Rattle.std.specs.Prelude.{ℕ, List, Result}
use Rattle.rules.specs.Refusals.{Answer, Gives, ◌then◌}
use Rattle.rules.specs.Book.{check, entry_at, append_answer, append_buffer, new_answer, new_buffer, kind_code, version1, entry_for}
use Rattle.kinds.specs.Views.{kind_of, bits_of}
use Rattle.requests.specs.Second.{FieldEntry}
use Rattle.refusals.specs.declared.Refusal.{Refusal}
use Rattle.refusals.specs.Answers.{result_as}
use Rattle.book.specs.Views.{in_bits, record_as}
use Rattle.book_run.specs.declared.operations.Operation.{Operation}
use Rattle.book_run.specs.declared.operations.Operation.TheVariants as O
use Rattle.book_run.specs.declared.operations.Told.{Told}
use Rattle.book_run.specs.declared.operations.Told.TheVariants as T

-- what an operation gives: nothing to tell, a number of records or a place, or a record
pub data Value : Type 0 where
  Done : Value
  Number : ℕ → Value
  Recorded : FieldEntry → Value

abbrev pub value_of : Told → Value
value_of T.Done = Done
value_of (T.Number n) = Number n
value_of (T.Record r) = Recorded (record_as r)

abbrev pub told_as : Result Told Refusal → Answer Value
told_as = result_as value_of

abbrev pub answer_of : Operation → List ℕ → Answer Value
answer_of O.New s = new_answer s then λ n. Gives Done
answer_of O.Check s = check version1 s then λ n. Gives (Number n)
answer_of (O.Record place) s = in_bits (entry_at version1 s place) then λ b. Gives (Recorded b)
answer_of (O.Append k d) s = append_answer version1 (entry_for (kind_code (kind_of k)) (bits_of d)) s then λ n. Gives (Number n)

-- only new and append change the buffer
abbrev pub buffer_of : Operation → List ℕ → List ℕ
buffer_of O.New s = new_buffer version1.frame.version s
buffer_of O.Check s = s
buffer_of (O.Record place) s = s
buffer_of (O.Append k d) s = append_buffer version1 (entry_for (kind_code (kind_of k)) (bits_of d)) s
