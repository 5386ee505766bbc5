-- D's own rules on a text, as the code tests them. Assumes nothing.
use mathlib.Core.Path.{◌≡◌, refl}
use mathlib.Core.Bool.{false, not, ◌||◌, and-false}
use mathlib.Core.List.{List, [], ◌∷◌}
use Prim.Native.Nat.{ℕ, ◌≤◌, ◌<◌}
use native.Mathlib.Omega.{arith}
use borrow.Author.Tests.{le-leb, lt-leb}
use lib.Dec.{eqb}
use lib.ListN.{length, get_or}
use Rattle.rules.specs.Words.{byte}
use Rattle.rules.specs.Kinds.{kD}
use Rattle.rules.specs.Text.{starts_with_plus, plus_allowed, shape_allowed}

first-is : (s : List ℕ) → 0 < length s → starts_with_plus s ≡ eqb (get_or s 0 0) (byte "+")
first-is [] h = absurd (omega arith)
first-is (b ∷ s) h = refl

pub of-length : (s : List ℕ) → 5 ≤ length s → length s ≤ 12 → shape_allowed kD s ≡ (not (eqb (get_or s 0 0) 43) || plus_allowed s)
unfolding shape_allowed
of-length s low high = rw (le-leb 5 (length s) low, le-leb (length s) 12 high, first-is s (omega arith))

pub too-short : (s : List ℕ) → length s < 5 → shape_allowed kD s ≡ false
unfolding shape_allowed
too-short s h = rw (lt-leb 5 (length s) h)

pub too-long : (s : List ℕ) → 12 < length s → shape_allowed kD s ≡ false
unfolding shape_allowed
too-long s h = rw (lt-leb (length s) 12 h, and-false)
