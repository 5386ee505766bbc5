-- A frame from its three numbers, how many pieces it has, and the code's answers as those of `rules`. Assumes nothing.
use Rattle.std.specs.Prelude.{ℕ, List, length, Result}
use Rattle.rules.specs.Refusals.{Answer, Gives, ◌then◌}
use Rattle.rules.specs.Book.{Frame, framed}
use Rattle.refusals.specs.declared.Refusal.{Refusal}
use Rattle.refusals.specs.Answers.{result_as}

abbrev pub frame_of : ℕ → ℕ → ℕ → Frame
frame_of size most version = record { size = size; most = most; version = version }

-- the number of a frame's pieces, or why there is none
unfoldable pub pieces_counted : Frame → List ℕ → Answer ℕ
pieces_counted frame s = framed frame s then λ rs. Gives (length rs)

abbrev pub framed_as : Result ℕ Refusal → Answer ℕ
framed_as = result_as (λ n. n)

-- an empty frame has no piece
abbrev pub started_as : Result (Unit {0}) Refusal → Answer ℕ
started_as = result_as (λ _. 0)
