-- A room whose front is replaced. Assumes nothing.
use Rattle.std.specs.Prelude.{ℕ, List, ◌++◌, take, drop}

-- the first n bytes of one, and what stands behind these in the other
abbrev pub fronted : ℕ → List ℕ → List ℕ → List ℕ
fronted n front s = take n front ++ drop n s
