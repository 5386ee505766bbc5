-- Many answers in one call: each is four numbers, one after the other in numbers that the caller lends. Assumes nothing.
use Rattle.std.specs.Prelude.{ℕ, zero, suc, cond, List, [], ◌++◌, leb}

-- the first n answers, one after the other
unfoldable pub fours : (ℕ → List ℕ) → ℕ → List ℕ
fours answer zero = []
fours answer (suc n) = fours answer n ++ answer n

-- as many are given as are asked for, and as there is room for
abbrev pub least : ℕ → ℕ → ℕ
least a b = cond (leb a b) a b
