-- Parts of a list of bytes, and where a byte stands in it. Assumes nothing.
use Rattle.std.specs.Prelude.{ℕ, suc, Bool, cond, List, [], ◌∷◌, eqb, take, drop}

-- the bytes from place i up to place j
unfoldable pub slice : ℕ → ℕ → List ℕ → List ℕ
slice i j s = drop i (take j s)

-- where a byte stands whose place in the rest is n: here, or one later
unfoldable pub index_after : Bool → ℕ → ℕ
index_after here n = cond here 0 (suc n)

-- the place of the first byte b, or the length where there is none
unfoldable pub index_of : ℕ → List ℕ → ℕ
index_of b [] = 0
index_of b (a ∷ s) = index_after (eqb a b) (index_of b s)
