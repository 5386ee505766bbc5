-- What each of some entries has, kept by a test and by a declaration. Assumes nothing.
use mathlib.Core.Bool.{Bool}
use mathlib.Core.List.{List, [], ◌∷◌, ◌++◌}
use Prim.Native.Nat.{ℕ}
use Rattle.requests.specs.Entries.{keep, declare}
use Rattle.requests.proofs.OnEntries.KeepLaws.{either}

abbrev pub Each : {A : Type 0} → (A → Type 0) → List A → Type 0
Each P [] = Unit {0}
Each P (r ∷ rs) = P r × Each P rs

module _ {A : Type 0} (P : A → Type 0) (key : A → ℕ) where
  pub each-kept : (p : ℕ → Bool) (rs : List A) → Each P rs → Each P (keep key p rs)
  unfolding keep
  each-kept p [] h = tt
  each-kept p (r ∷ rs) h =
      let more = each-kept p rs h.1 in either (p (key r)) (λ e. rw e (h.0, more)) (λ e. rw e more)

  each-joined : (xs ys : List A) → Each P xs → Each P ys → Each P (xs ++ ys)
  each-joined [] ys h g = g
  each-joined (x ∷ xs) ys h g = (h.0, each-joined xs ys h.1 g)

  pub each-declared : (r : A) (rs : List A) → P r → Each P rs → Each P (declare key r rs)
  unfolding declare
  each-declared r rs g h = each-joined (keep key _ rs) _ (each-kept _ rs h) (g, each-kept _ rs h)
