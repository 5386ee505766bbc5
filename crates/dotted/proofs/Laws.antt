-- Steps of reading, one after another, may be put together from either side; what a text has at a place, or that it ends before it.
-- Assumes nothing.
use mathlib.Core.Path.{◌≡◌, refl}
use mathlib.Core.List.{List, ◌∷◌}
use Prim.Native.Nat.{ℕ, ◌+◌, ◌<◌}
use lib.ListN.{length, get_or, drop}
use Rattle.rules.proofs.Shared.Rests.{here}
use Rattle.rules.specs.Refusals.{Answer, Gives, Refused, RefusedAt, ◌then◌}

-- x, then f and g together, is x and f together, then g
pub then-then : {A B C : Type 0} (x : Answer A) (f : A → Answer B) (g : B → Answer C) → (x then λ a. f a then g) ≡ (x then f then g)
then-then (Gives a) f g = refl
then-then (Refused n) f g = refl
then-then (RefusedAt n place) f g = refl

-- the byte that was found at a place, and the rest after it
pub found : (s : List ℕ) (at b : ℕ) → at < length s → b ≡ get_or s at 0 → drop at s ≡ b ∷ drop (at + 1) s
found s at b h e = rw e (here s at h)
