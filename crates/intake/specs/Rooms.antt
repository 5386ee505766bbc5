-- What a room holds at first. Assumes nothing.
use Rattle.std.specs.Prelude.{ℕ, List, replicate}

-- so many bytes, each 0
unfoldable pub zeros : ℕ → List ℕ
zeros n = replicate n 0
