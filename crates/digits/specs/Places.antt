-- A text at the front of a buffer, and a number in so many digits. Assumes nothing.
use Rattle.std.specs.Prelude.{ℕ, zero, suc, ◌/◌, ◌%◌, List, [], ◌∷◌, ◌++◌, length, drop}
use Rattle.rules.specs.Spelling.{digit}

-- a text at the front of a buffer; what is after it stays
abbrev pub placed : List ℕ → List ℕ → List ℕ
placed text buffer = text ++ drop (length text) buffer

-- the last k digits of n, with zeros in front
unfoldable pub digits_in : ℕ → ℕ → List ℕ
digits_in zero n = []
digits_in (suc k) n = digits_in k (n / 10) ++ digit (n % 10) ∷ []
