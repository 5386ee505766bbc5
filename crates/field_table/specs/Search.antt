-- n entries of a table from its head on, over the bytes of a key: that there is room for them, and where a key stands. Assumes nothing.
use Rattle.std.specs.Prelude.{ℕ, ◌+◌, ◌*◌, ◌≤◌, List, [], ◌∷◌, drop, Result, Ok, Err}
use Rattle.rules.specs.Book.{head_size, pieces}
use Rattle.requests.specs.Entries.{place, standing}
use Rattle.requests.specs.FieldTable.{key_in}

-- the widest key that the code takes
abbrev pub widest : ℕ
widest = 4

-- n entries stand in so many bytes
pub record Room (key_size n size : ℕ) : Type 0 where
  pub fits : head_size + n * (key_size + 1) ≤ size
  pub narrow : key_size ≤ widest

abbrev pub entries_in : ℕ → ℕ → List ℕ → List (List ℕ)
entries_in key_size n s = pieces n (key_size + 1) (drop head_size s)

-- its place, if there is an entry that has the key, else the place where it would stand
abbrev pub found_in : ℕ → List (List ℕ) → Result ℕ ℕ
found_in i [] = Err i
found_in i (r ∷ rs) = Ok i

unfoldable pub find_of : ℕ → ℕ → List (List ℕ) → Result ℕ ℕ
find_of key_size q rs = found_in (place (key_in key_size) q rs) (standing (key_in key_size) q rs)
