-- The entries that a script puts into its buffer, and whether there is room for them. Assumes nothing.
use Rattle.std.specs.Prelude.{ℕ, zero, suc, ◌+◌, ◌*◌, ◌/◌, ◌%◌, Bool, ◌&&◌, List, [], ◌∷◌, leb}

-- the bytes of so many entries of a table: the fields from the first on, each in two bytes, and the code
unfoldable pub entry_run : ℕ → ℕ → ℕ → List ℕ
entry_run first zero code = []
entry_run first (suc n) code = first / 256 ∷ first % 256 ∷ code ∷ entry_run (suc first) n code

-- each field has two bytes, and a buffer so long has three for each entry from the place on
unfoldable pub entries_fit : ℕ → ℕ → ℕ → ℕ → Bool
entries_fit place first count long = leb (first + count) 65536 && leb (place + 3 * count) long
