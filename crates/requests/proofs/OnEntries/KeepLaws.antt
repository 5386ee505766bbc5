-- Keeping the entries whose key passes a test: of two lists, by two tests, and of an ascending list whose keys all lie past a bound.
-- Assumes nothing.
use mathlib.Core.Path.{◌≡◌, refl, sym, ap, ◌∙◌}
use mathlib.Core.Bool.{Bool, true, false, ◌&&◌, and_comm}
use mathlib.Core.List.{List, [], ◌∷◌, ◌++◌}
use Prim.Native.Nat.{ℕ}
use native.Mathlib.Omega.{arith}
use Rattle.requests.specs.Entries.{keep}

-- by cases on a test
pub either : {C : Type 0} (t : Bool) → (t ≡ true → C) → (t ≡ false → C) → C
either true f g = f refl
either false f g = g refl

pub both : (a b : Bool) → (a && b) ≡ true → (a ≡ true) × (b ≡ true)
both true b e = (refl, e)
both false b e = let z : ◌≡◌ {A = ℕ} 0 1 = cc in absurd (omega arith)

module _ {A : Type 0} (key : A → ℕ) where
  pub keep_append : (p : ℕ → Bool) (xs ys : List A) → keep key p (xs ++ ys) ≡ keep key p xs ++ keep key p ys
  unfolding keep
  keep_append p [] ys = refl
  keep_append p (x ∷ xs) ys =
      either (p (key x)) (λ e. rw e (ap (λ (l : List A). x ∷ l) (keep_append p xs ys))) (λ e. rw e (keep_append p xs ys))

  -- kept by two tests, one after the other
  pub keep-both : (p q : ℕ → Bool) (rs : List A) → keep key p (keep key q rs) ≡ keep key (λ x. p x && q x) rs
  unfolding keep
  keep-both p q [] = refl
  keep-both p q (x ∷ xs) =
      let more = keep-both p q xs in
      either (q (key x))
      (λ e. either (p (key x)) (λ f. rw (e, f) (ap (λ (l : List A). x ∷ l) more)) (λ f. rw (e, f) more))
      (λ e. either (p (key x)) (λ f. rw (e, f) more) (λ f. rw (e, f) more))

  pub keep-as : (p q : ℕ → Bool) → ((x : ℕ) → p x ≡ q x) → (rs : List A) → keep key p rs ≡ keep key q rs
  unfolding keep
  keep-as p q h [] = refl
  keep-as p q h (x ∷ xs) = rw (h (key x), keep-as p q h xs)

  -- a test that no key passes
  pub keep-none : (p : ℕ → Bool) → ((x : ℕ) → p x ≡ false) → (rs : List A) → keep key p rs ≡ []
  unfolding keep
  keep-none p h [] = refl
  keep-none p h (x ∷ xs) = rw (h (key x)) (keep-none p h xs)

  -- one test is passed wherever the other is, or nowhere
  pub keep-inside : (p q : ℕ → Bool) → ((x : ℕ) → q x ≡ true → p x ≡ true) → (rs : List A) → keep key p (keep key q rs) ≡ keep key q rs
  keep-inside p q h rs =
      keep-both p q rs ∙ keep-as (λ x. p x && q x) q (λ x. either (q x) (λ e. rw (e, h x e)) (λ e. either (p x) (λ f. rw (e, f)) (λ f. rw (e, f)))) rs

  pub keep-outside : (p q : ℕ → Bool) → ((x : ℕ) → q x ≡ true → p x ≡ false) → (rs : List A) → keep key p (keep key q rs) ≡ []
  keep-outside p q h rs =
      keep-both p q rs ∙ keep-none (λ x. p x && q x) (λ x. either (q x) (λ e. rw (h x e)) (λ e. either (p x) (λ f. rw (e, f)) (λ f. rw f))) rs

  -- the order of two tests does not matter
  pub keep-swap : (p q : ℕ → Bool) (rs : List A) → keep key p (keep key q rs) ≡ keep key q (keep key p rs)
  keep-swap p q rs = keep-both p q rs ∙ keep-as (λ x. p x && q x) (λ x. q x && p x) (λ x. and_comm (p x) (q x)) rs ∙ sym (keep-both q p rs)
