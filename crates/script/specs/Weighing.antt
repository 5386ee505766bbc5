-- The weights of bytes: each times one more than its place. Assumes nothing.
use Rattle.std.specs.Prelude.{ℕ, suc, ◌+◌, ◌*◌, List, [], ◌∷◌}

-- the first byte n times, the next once more, and so on
unfoldable pub weights_from : ℕ → List ℕ → ℕ
weights_from n [] = 0
weights_from n (b ∷ s) = n * b + weights_from (suc n) s
