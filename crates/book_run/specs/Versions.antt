-- What is told of an operation on version 2 or on either version, of a move, and the buffer after it, by `requests`. Assumes nothing.
use Rattle.std.specs.Prelude.{ℕ, Bool, true, false, List}
use Rattle.rules.specs.Refusals.{Answer, Gives, ◌then◌}
use Rattle.rules.specs.Book.{check, entry_at, append_answer, append_buffer, new_answer, new_buffer, kind_code}
use Rattle.requests.specs.Second.{version2, field_entry_for}
use Rattle.requests.specs.Both.{both}
use Rattle.requests.specs.Moves.{move_answer, move_buffer, upward, downward}
use Rattle.kinds.specs.Views.{kind_of, bits_of}
use Rattle.book_run.specs.declared.versions.VersionOperation.{VersionOperation}
use Rattle.book_run.specs.declared.versions.VersionOperation.TheVariants as O
use Rattle.book_run.specs.Operations.{Value, Done, Number, Recorded}

abbrev pub answer_of : VersionOperation → List ℕ → Answer Value
answer_of O.New s = new_answer s then λ n. Gives Done
answer_of O.Check s = check version2 s then λ n. Gives (Number n)
answer_of (O.Record place) s = entry_at version2 s place then λ b. Gives (Recorded b)
answer_of (O.Append k field d) s = append_answer version2 (field_entry_for (kind_code (kind_of k)) field (bits_of d)) s then λ n. Gives (Number n)
answer_of O.AnyCheck s = check (both s) s then λ n. Gives (Number n)
answer_of (O.AnyRecord place) s = entry_at (both s) s place then λ b. Gives (Recorded b)

-- only new and append change the buffer
abbrev pub buffer_of : VersionOperation → List ℕ → List ℕ
buffer_of O.New s = new_buffer version2.frame.version s
buffer_of O.Check s = s
buffer_of (O.Record place) s = s
buffer_of (O.Append k field d) s = append_buffer version2 (field_entry_for (kind_code (kind_of k)) field (bits_of d)) s
buffer_of O.AnyCheck s = s
buffer_of (O.AnyRecord place) s = s

-- a move from s into t, up to version 2 or down to version 1, and t after it
abbrev pub move_of : Bool → List ℕ → List ℕ → Answer Value
move_of true s t = move_answer upward s t then λ n. Gives (Number n)
move_of false s t = move_answer downward s t then λ n. Gives (Number n)

abbrev pub target_of : Bool → List ℕ → List ℕ → List ℕ
target_of true s t = move_buffer upward s t
target_of false s t = move_buffer downward s t
