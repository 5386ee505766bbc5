-- Two texts have the same bytes exactly where they are equal. Assumes nothing.
use mathlib.Core.Path.{◌≡◌, refl, sym, subst, ap₂}
use mathlib.Core.Bool.{true}
use mathlib.Core.List.{List, [], ◌∷◌}
use Prim.Native.Nat.{ℕ}
use borrow.Author.Tests.{eqb-true, eq-eqb}
use lib.Dec.{T, eqb}
use Rattle.rules.specs.Words.{same_bytes}
use Rattle.rules.proofs.OnKinds.KindLaws.{left, right}

pub same_true : (s t : List ℕ) → same_bytes s t ≡ true → s ≡ t
unfolding same_bytes
same_true [] [] e = refl
same_true [] (c ∷ t) e = absurd (subst T (sym e) tt)
same_true (b ∷ s) [] e = absurd (subst T (sym e) tt)
same_true (b ∷ s) (c ∷ t) e =
    ap₂ (λ (x : ℕ) (l : List ℕ). x ∷ l) (eqb-true b c (left (eqb b c) (same_bytes s t) e)) (same_true s t (right (eqb b c) (same_bytes s t) e))

pub same-itself : (s : List ℕ) → same_bytes s s ≡ true
unfolding same_bytes
same-itself [] = refl
same-itself (b ∷ s) = rw (eq-eqb b b refl, same-itself s)
