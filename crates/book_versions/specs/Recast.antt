-- A record of one size as one of another, and the book of such records, over both sizes; and the code's answer as that of `requests`.
-- Assumes nothing.
use Rattle.std.specs.Prelude.{ℕ, ◌+◌, ◌*◌, ◌-◌, cond, List, ◌++◌, map, leb, length, take, drop, replicate, Result}
use Rattle.rules.specs.Refusals.{Answer, Gives, demand, no_room}
use Rattle.rules.specs.Book.{head_size}
use Rattle.requests.specs.Laid.{laid}
use Rattle.frame.specs.Views.{frame_of}
use Rattle.book.specs.Views.{date_size, least_size}
use Rattle.refusals.specs.declared.Refusal.{Refusal}
use Rattle.refusals.specs.Answers.{result_as}

abbrev pub zeros : ℕ → List ℕ
zeros n = replicate n 0

-- its kind, zeros for what lies between, its date: `widened` at 5 and 7, `narrowed` at 7 and 5
abbrev pub recast : ℕ → ℕ → List ℕ → List ℕ
recast size newSize r = take 1 r ++ (zeros (newSize - least_size) ++ drop (size - date_size) r)

abbrev pub recast_all : ℕ → ℕ → List (List ℕ) → List (List ℕ)
recast_all size newSize rs = map (recast size newSize) rs

-- the room for n records of so many bytes
abbrev pub room_of : ℕ → ℕ → ℕ
room_of size n = head_size + n * size

-- what laying out n of them answers, and the target after it
unfoldable pub lay_answer : ℕ → ℕ → List ℕ → Answer ℕ
lay_answer size n t = demand (leb (room_of size n) (length t)) no_room (Gives n)

unfoldable pub lay_buffer : ℕ → ℕ → List (List ℕ) → List ℕ → List ℕ
lay_buffer size version rs t =
    cond (leb (room_of size (length rs)) (length t)) (laid (frame_of size (length rs) version) rs ++ drop (room_of size (length rs)) t) t

abbrev pub moved_as : Result ℕ Refusal → Answer ℕ
moved_as = result_as (λ n. n)
