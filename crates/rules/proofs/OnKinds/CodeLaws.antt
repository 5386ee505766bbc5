-- A kind by its code, over the codes: a line names a kind by its letter, a book by its number. Assumes nothing.
use mathlib.Core.Path.{◌≡◌, refl}
use mathlib.Core.Bool.{cond}
use mathlib.Core.List.{List, [], ◌∷◌}
use Prim.Native.Nat.{ℕ}
use borrow.Author.Tests.{eqb-true, ne_eqb}
use lib.Dec.{eqb}
use Rattle.rules.specs.Refusals.{Answer, Gives, Refused}
use Rattle.rules.specs.Kinds.{Kind, kR, kD, kH, kU, kE, kV, kind_by}
use Rattle.rules.specs.Listing.{letter, kind_of_letter}
use Rattle.rules.proofs.OnRefusals.OutcomeLaws.{Outcome, gives, refuses, outcome-when}

module _ (codes : Kind → ℕ) (n code : ℕ) where
  -- the code is that of none of these kinds, the last first. `c.match.rest` is of this type
  abbrev pub NoneOf : List Kind → Type 0
  NoneOf [] = Unit {0}
  NoneOf (k ∷ ks) = NoneOf ks × (code ≡ codes k → ⊥)

  pub no_kind : NoneOf (kV ∷ kE ∷ kU ∷ kH ∷ kD ∷ kR ∷ []) → kind_by codes n code ≡ Refused n
  no_kind h =
      rw (
        ne_eqb code (codes kR) h.0.0.0.0.0.1,
        ne_eqb code (codes kD) h.0.0.0.0.1,
        ne_eqb code (codes kH) h.0.0.0.1,
        ne_eqb code (codes kU) h.0.0.1,
        ne_eqb code (codes kE) h.0.1,
        ne_eqb code (codes kV) h.1,
      )

  -- this kind where the code is its own, else what the kinds after it give
  this : {R : ℕ → Type 0} (k : Kind) {x : Answer Kind} → Outcome R (λ j. code ≡ codes j) x
      → Outcome R (λ j. code ≡ codes j) (cond (eqb code (codes k)) (Gives k) x)
  this k o = outcome-when (eqb code (codes k)) (λ e. gives (eqb-true code (codes k) e)) o

  -- a kind that has the code, or the refusal n
  pub outcome-kind : {R : ℕ → Type 0} → R n → Outcome R (λ k. code ≡ codes k) (kind_by codes n code)
  outcome-kind r = this kR (this kD (this kH (this kU (this kE (this kV (refuses r))))))

-- a kind's own letter names it
pub letter-back : (k : Kind) → kind_of_letter (letter k) ≡ Gives k
unfolding kind_of_letter
letter-back kR = refl
letter-back kD = refl
letter-back kH = refl
letter-back kU = refl
letter-back kE = refl
letter-back kV = refl
