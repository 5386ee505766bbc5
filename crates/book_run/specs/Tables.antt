-- What is told of a table operation, and the buffer after it, by `requests`. Assumes nothing.
use Rattle.std.specs.Prelude.{ℕ, List}
use Rattle.rules.specs.Refusals.{Answer, Gives, ◌then◌}
use Rattle.rules.specs.Book.{new_answer, new_buffer}
use Rattle.requests.specs.FieldTable.{table1, check, entry_at, counted, declared, declare_buffer, removed, remove_buffer, lookup}
use Rattle.field_table.specs.Views.{in_bits}
use Rattle.script.specs.TableAnswers.{Value, Done, Number, Declares, Dated}
use Rattle.book_run.specs.declared.tables.TableOperation.{TableOperation}
use Rattle.book_run.specs.declared.tables.TableOperation.TheVariants as O

abbrev pub answer_of : TableOperation → List ℕ → Answer Value
answer_of O.New s = new_answer s then λ n. Gives Done
answer_of O.Check s = check table1 s then λ n. Gives (Number n)
answer_of (O.Entry place) s = entry_at table1 s place then λ d. Gives (Declares d)
answer_of (O.Declare field code) s = counted (declared table1 s field code) then λ n. Gives (Number n)
answer_of (O.Remove field) s = counted (removed table1 s field) then λ n. Gives (Number n)
answer_of (O.Lookup field game number) s = in_bits (lookup table1 s field game number) then λ b. Gives (Dated b)

-- new, declare and remove change the buffer
abbrev pub buffer_of : TableOperation → List ℕ → List ℕ
buffer_of O.New s = new_buffer table1.version s
buffer_of O.Check s = s
buffer_of (O.Entry place) s = s
buffer_of (O.Declare field code) s = declare_buffer table1 s field code
buffer_of (O.Remove field) s = remove_buffer table1 s field
buffer_of (O.Lookup field game number) s = s
