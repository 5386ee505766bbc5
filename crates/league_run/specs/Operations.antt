-- What is told of an operation on a table of two leagues, or of version 1, and the buffer after it, by `requests`. Assumes nothing.
use Rattle.std.specs.Prelude.{ℕ, List}
use Rattle.rules.specs.Refusals.{Answer, Gives, ◌then◌}
use Rattle.rules.specs.Book.{new_answer, new_buffer}
use Rattle.requests.specs.FieldTable.{table1, check, counted, lookup}
use Rattle.requests.specs.Leagues.{table2, own_of, own_entries, own_entry_at, own_declaration, own_declare_buffer, own_removal, own_remove_buffer, own_lookup}
use Rattle.field_table.specs.Views.{in_bits}
use Rattle.script.specs.TableAnswers.{Value, Done, Number, Declares, Dated}
use Rattle.league_run.specs.declared.operations.Operation.{Operation}
use Rattle.league_run.specs.declared.operations.Operation.TheVariants as O

abbrev pub answer_of : Operation → List ℕ → Answer Value
answer_of O.New s = new_answer s then λ n. Gives Done
answer_of (O.Check league) s = counted (own_entries s league) then λ n. Gives (Number n)
answer_of (O.Entry league place) s = own_entry_at s league place then λ d. Gives (Declares d)
answer_of (O.Declare league field code) s = counted (own_of league (own_declaration s league field code)) then λ n. Gives (Number n)
answer_of (O.Remove league field) s = counted (own_of league (own_removal s league field)) then λ n. Gives (Number n)
answer_of (O.Lookup league field game number) s = in_bits (own_lookup s league field game number) then λ b. Gives (Dated b)
answer_of O.OldCheck s = check table1 s then λ n. Gives (Number n)
answer_of (O.OldLookup field game number) s = in_bits (lookup table1 s field game number) then λ b. Gives (Dated b)

-- new, declare and remove change the buffer
abbrev pub buffer_of : Operation → List ℕ → List ℕ
buffer_of O.New s = new_buffer table2.version s
buffer_of (O.Check league) s = s
buffer_of (O.Entry league place) s = s
buffer_of (O.Declare league field code) s = own_declare_buffer s league field code
buffer_of (O.Remove league field) s = own_remove_buffer s league field
buffer_of (O.Lookup league field game number) s = s
buffer_of O.OldCheck s = s
buffer_of (O.OldLookup field game number) s = s
