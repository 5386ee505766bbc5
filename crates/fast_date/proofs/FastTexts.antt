-- D's fast path on a text, by its length and its dots. Assumes nothing.
use mathlib.Core.Path.{◌≡◌, refl, sym, ap, subst, ◌∙◌}
use mathlib.Core.Logic.{◌⊎◌, inl, inr, ⊎_elim}
use mathlib.Core.Bool.{Bool, true, false, ◌&&◌, ◌||◌, and-false, or-false}
use mathlib.Core.List.{List, [], ◌∷◌}
use Prim.Native.Nat.{ℕ}
use native.Mathlib.Nat.{le_of_eq}
use native.Mathlib.Omega.{arith}
use borrow.Author.Tests.{ne_eqb}
use lib.Dec.{T, eqb}
use lib.ListN.{length, get_or}
use lib.Seq.{take_all}
use Rattle.util.proofs.Bytes.{listed, listed-is}
use Rattle.fast_date.specs.Fast.{alike, fast_shape, quickly, Silent, eight}
use Rattle.fast_date.proofs.FastLaws.{shape-8, shape-9a, shape-9b, shape-10}

-- a text of n bytes, byte by byte
whole : (n : ℕ) (s : List ℕ) → length s ≡ n → s ≡ listed n s 0
whole n s h = sym (take_all n s (le_of_eq h)) ∙ listed-is n s 0 (omega arith)

silent : (s : List ℕ) → fast_shape s ≡ false → quickly s ≡ Silent
unfolding quickly
silent s e = rw e

no-shape : (s : List ℕ) → (length s ≡ 10 → ⊥) → (length s ≡ 9 → ⊥) → (length s ≡ 8 → ⊥) → fast_shape s ≡ false
unfolding fast_shape
no-shape s a b c = rw (ne_eqb (length s) 8 c, ne_eqb (length s) 9 b, ne_eqb (length s) 10 a)

pub other_length : (s : List ℕ) → (length s ≡ 10 → ⊥) → (length s ≡ 9 → ⊥) → (length s ≡ 8 → ⊥) → quickly s ≡ Silent
other_length s a b c = silent s (no-shape s a b c)

-- of two tests that do not both hold one fails, and of two that neither holds both fail
one-fails : (s t : Bool) → s && t ≡ false → (s ≡ false) ⊎ (t ≡ false)
one-fails true t e = inr e
one-fails false t e = inl refl

both-fail : (s t : Bool) → s || t ≡ false → (s ≡ false) × (t ≡ false)
both-fail true t e = absurd (subst T e tt)
both-fail false t e = (refl, e)

-- at a length of 8, 9 or 10, byte by byte: no dot where one must be
module _ (a b c d e f g h : ℕ) where
  dotless-8 : eqb e 46 && eqb g 46 ≡ false → fast_shape (a ∷ b ∷ c ∷ d ∷ e ∷ f ∷ g ∷ h ∷ []) ≡ false
  unfolding fast_shape alike
  dotless-8 o = ⊎_elim (λ (p : eqb e 46 ≡ false). simp (p, and-false, or-false)) (λ (q : eqb g 46 ≡ false). simp (q, and-false, or-false))
      (one-fails _ _ o)

  module _ (i : ℕ) where
    dotless-9 : eqb e 46 && (eqb h 46 || eqb g 46) ≡ false → fast_shape (a ∷ b ∷ c ∷ d ∷ e ∷ f ∷ g ∷ h ∷ i ∷ []) ≡ false
    unfolding fast_shape alike
    dotless-9 o =
        ⊎_elim (λ (p : eqb e 46 ≡ false). simp (p, and-false, or-false)) (λ (q : eqb h 46 || eqb g 46 ≡ false). let r = both-fail (eqb h 46) (eqb g 46) q in simp (r.0, r.1, and-false, or-false))
        (one-fails _ _ o)

    dotless-10 : (j : ℕ) → eqb e 46 && eqb h 46 ≡ false → fast_shape (a ∷ b ∷ c ∷ d ∷ e ∷ f ∷ g ∷ h ∷ i ∷ j ∷ []) ≡ false
    unfolding fast_shape alike
    dotless-10 j o = ⊎_elim (λ (p : eqb e 46 ≡ false). simp (p, and-false)) (λ (q : eqb h 46 ≡ false). simp (q, and-false))
        (one-fails _ _ o)

module _ (s : List ℕ) where
  module _ (n : length s ≡ 10) where
    pub dots-10 : get_or s 4 0 ≡ 46 → get_or s 7 0 ≡ 46 →
        quickly s ≡ eight (get_or s 0 0 ∷ get_or s 1 0 ∷ get_or s 2 0 ∷ get_or s 3 0 ∷ get_or s 5 0 ∷ get_or s 6 0 ∷ get_or s 8 0 ∷ get_or s 9 0 ∷ [])
    dots-10 p q = ap quickly (whole 10 s n) ∙ rw (p, q) (shape-10 _ _ _ _ _ _ _ _)

    pub none-10 : eqb (get_or s 4 0) 46 && eqb (get_or s 7 0) 46 ≡ false → quickly s ≡ Silent
    none-10 p = silent s (ap fast_shape (whole 10 s n) ∙ dotless-10 _ _ _ _ _ _ _ _ _ _ p)

  module _ (n : length s ≡ 9) where
    pub dots-9a : get_or s 4 0 ≡ 46 → get_or s 7 0 ≡ 46 →
        quickly s ≡ eight (get_or s 0 0 ∷ get_or s 1 0 ∷ get_or s 2 0 ∷ get_or s 3 0 ∷ get_or s 5 0 ∷ get_or s 6 0 ∷ 48 ∷ get_or s 8 0 ∷ [])
    dots-9a p q = ap quickly (whole 9 s n) ∙ rw (p, q) (shape-9a _ _ _ _ _ _ _)

    pub dots-9b : get_or s 4 0 ≡ 46 → get_or s 6 0 ≡ 46 →
        quickly s ≡ eight (get_or s 0 0 ∷ get_or s 1 0 ∷ get_or s 2 0 ∷ get_or s 3 0 ∷ 48 ∷ get_or s 5 0 ∷ get_or s 7 0 ∷ get_or s 8 0 ∷ [])
    dots-9b p q = ap quickly (whole 9 s n) ∙ rw (p, q) (shape-9b _ _ _ _ _ _ _)

    pub none-9 : eqb (get_or s 4 0) 46 && (eqb (get_or s 7 0) 46 || eqb (get_or s 6 0) 46) ≡ false → quickly s ≡ Silent
    none-9 p = silent s (ap fast_shape (whole 9 s n) ∙ dotless-9 _ _ _ _ _ _ _ _ _ p)

  module _ (n : length s ≡ 8) where
    pub dots-8 : get_or s 4 0 ≡ 46 → get_or s 6 0 ≡ 46 →
        quickly s ≡ eight (get_or s 0 0 ∷ get_or s 1 0 ∷ get_or s 2 0 ∷ get_or s 3 0 ∷ 48 ∷ get_or s 5 0 ∷ 48 ∷ get_or s 7 0 ∷ [])
    dots-8 p q = ap quickly (whole 8 s n) ∙ rw (p, q) (shape-8 _ _ _ _ _ _)

    pub none-8 : eqb (get_or s 4 0) 46 && eqb (get_or s 6 0) 46 ≡ false → quickly s ≡ Silent
    none-8 p = silent s (ap fast_shape (whole 8 s n) ∙ dotless-8 _ _ _ _ _ _ _ _ p)
