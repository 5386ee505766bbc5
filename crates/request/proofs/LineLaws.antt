-- A line by its first four bytes: two of them are spaces, and the others name its kind and its way. Assumes nothing.
use mathlib.Core.Path.{◌≡◌, refl}
use mathlib.Core.Bool.{◌&&◌}
use mathlib.Core.List.{List, [], ◌∷◌}
use Prim.Native.Nat.{ℕ, ◌≤◌, ◌<◌}
use native.Mathlib.Omega.{arith}
use borrow.Author.Tests.{eq-eqb, ne_eqb}
use lib.Dec.{eqb}
use lib.ListN.{length, get_or, drop}
use Rattle.rules.specs.Refusals.{Answer, Gives, Refused, ◌then◌, demand, unreadable_line}
use Rattle.rules.specs.Listing.{Line, kind_of_letter, way_of_letter, has_way, read_line}

pub too_short : (s : List ℕ) → length s < 4 → read_line s ≡ Refused unreadable_line
unfolding read_line
too_short [] h = refl
too_short (a ∷ []) h = refl
too_short (a ∷ b ∷ []) h = refl
too_short (a ∷ b ∷ c ∷ []) h = refl
too_short (a ∷ b ∷ c ∷ d ∷ s) h = absurd (omega arith)

abbrev asked : ℕ → ℕ → List ℕ → Answer Line
asked a c rest =
    kind_of_letter a then λ k. way_of_letter c then λ w.
    demand (has_way k w) unreadable_line (Gives (record { kind = k; way = w; rest = rest }))

four_bytes : (s : List ℕ) → 4 ≤ length s → read_line s
    ≡ demand (eqb (get_or s 1 0) 32 && eqb (get_or s 3 0) 32) unreadable_line (asked (get_or s 0 0) (get_or s 2 0) (drop 4 s))
unfolding read_line
four_bytes [] h = absurd (omega arith)
four_bytes (a ∷ []) h = absurd (omega arith)
four_bytes (a ∷ b ∷ []) h = absurd (omega arith)
four_bytes (a ∷ b ∷ c ∷ []) h = absurd (omega arith)
four_bytes (a ∷ b ∷ c ∷ d ∷ s) h = refl

module _ (s : List ℕ) (long : 4 ≤ length s) where
  pub no-space : (get_or s 1 0 ≡ 32 → ⊥) → read_line s ≡ Refused unreadable_line
  no-space e = rw (four_bytes s long, ne_eqb (get_or s 1 0) 32 e)

  module _ (space : get_or s 1 0 ≡ 32) where
    pub one-space : (get_or s 3 0 ≡ 32 → ⊥) → read_line s ≡ Refused unreadable_line
    one-space e = rw (four_bytes s long, eq-eqb (get_or s 1 0) 32 space, ne_eqb (get_or s 3 0) 32 e)

    pub two-spaces : get_or s 3 0 ≡ 32 → read_line s ≡ asked (get_or s 0 0) (get_or s 2 0) (drop 4 s)
    two-spaces e = rw (four_bytes s long, eq-eqb (get_or s 1 0) 32 space, eq-eqb (get_or s 3 0) 32 e)
