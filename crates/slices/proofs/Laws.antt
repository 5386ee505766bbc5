-- Two texts compared byte by byte: what another length tells, and that the library compares slices so. Assumes nothing.
use mathlib.Core.Path.{◌≡◌, refl, ap}
use mathlib.Core.Bool.{Bool, true, false}
use mathlib.Core.List.{List, [], ◌∷◌}
use lib.Dec.{eqb}
use Rattle.std.specs.Cmp.Lexicographic.{pointwise}
use Prim.Native.Nat.{ℕ}
use lib.ListN.{length}
use Rattle.rules.specs.Words.{same_bytes}
use Rattle.rules.proofs.OnWords.SameLaws.{same_true}

-- texts of other lengths differ
pub other_length : (s t : List ℕ) → (length s ≡ length t → ⊥) → same_bytes s t ≡ false
other_length s t h = split (same_bytes s t) refl
  where
    split : (b : Bool) → same_bytes s t ≡ b → b ≡ false
    split true e = absurd (h (ap length (same_true s t e)))
    split false e = refl

-- as the library compares slices
pub same_pointwise : (s t : List ℕ) → pointwise eqb s t ≡ same_bytes s t
unfolding same_bytes
same_pointwise [] [] = refl
same_pointwise [] (c ∷ t) = refl
same_pointwise (b ∷ s) [] = refl
same_pointwise (b ∷ s) (c ∷ t) = rw (same_pointwise s t)
