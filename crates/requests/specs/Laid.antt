-- The bytes of a frame that holds some pieces, from the pieces. Over the frame. Assumes nothing.
use Rattle.std.specs.Prelude.{ℕ, ◌+◌, ◌*◌, List, [], ◌∷◌, ◌++◌, length}
use Rattle.rules.specs.Words.{big_bytes}
use Rattle.rules.specs.Book.{Frame, length_size}

-- pieces one after the other
unfoldable pub joined : List (List ℕ) → List ℕ
joined [] = []
joined (r ∷ rs) = r ++ joined rs

-- four bytes of length, which counts what follows; the version byte; the pieces
unfoldable pub laid : Frame → List (List ℕ) → List ℕ
laid frame rs = big_bytes length_size (1 + length rs * frame.size) ++ frame.version ∷ joined rs
