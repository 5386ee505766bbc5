-- What each of some records has: where a search finds no bad one, and back; and through a change of each. Assumes nothing.
use mathlib.Core.Path.{◌≡◌, refl}
use mathlib.Core.Bool.{Bool, true}
use mathlib.Core.List.{List, [], ◌∷◌, map}
use Prim.Native.Nat.{ℕ, ◌≤◌, zero-le}
use native.Mathlib.Omega.{arith}
use lib.ListN.{length}
use Rattle.rules.specs.Book.{first_bad}
use Rattle.rules.proofs.OnBook.PieceLaws.{passed}
use Rattle.requests.proofs.OnEntries.EachLaws.{Each}

pub each_both : (P Q : List ℕ → Type 0) (rs : List (List ℕ)) → Each P rs → Each Q rs → Each (λ r. P r × Q r) rs
each_both P Q [] p q = tt
each_both P Q (r ∷ rs) p q = ((p.0, q.0), each_both P Q rs p.1 q.1)

pub each-always : {P : List ℕ → Type 0} → ((r : List ℕ) → P r) → (rs : List (List ℕ)) → Each P rs
each-always f [] = tt
each-always f (r ∷ rs) = (f r, each-always f rs)

-- a search finds no bad one exactly where each passes
pub each-passes : (test : List ℕ → Bool) (rs : List (List ℕ)) → length rs ≤ first_bad test rs → Each (λ r. test r ≡ true) rs
unfolding first_bad
each-passes test [] h = tt
each-passes test (r ∷ rs) h = let p = passed (test r) _ _ h in (p.0, each-passes test rs p.1)

pub none-bad : (test : List ℕ → Bool) (rs : List (List ℕ)) → Each (λ r. test r ≡ true) rs → length rs ≤ first_bad test rs
unfolding first_bad
none-bad test [] p = zero-le
none-bad test (r ∷ rs) p = let h = none-bad test rs p.1 in rw p.0 (omega arith)

-- a change of each
module _ {A B : Type 0} (P : A → Type 0) (change : A → B) where
  pub each-changed : (Q : B → Type 0) → ((r : A) → P r → Q (change r)) → (rs : List A) → Each P rs → Each Q (map change rs)
  each-changed Q f [] p = tt
  each-changed Q f (r ∷ rs) p = (f r p.0, each-changed Q f rs p.1)

  pub changed-back : (back : B → A) → ((r : A) → P r → back (change r) ≡ r) → (rs : List A) → Each P rs → map back (map change rs) ≡ rs
  changed-back back f [] p = refl
  changed-back back f (r ∷ rs) p = rw (f r p.0, changed-back back f rs p.1)
