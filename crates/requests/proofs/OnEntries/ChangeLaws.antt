-- What declaring an entry and removing one leave: ascending entries, what a test of the key keeps of them (another key),
-- and the same done in place. Over the entries and the key. Assumes nothing.
use mathlib.Core.Path.{◌≡◌, refl, sym, ap, ◌∙◌}
use mathlib.Core.Bool.{Bool, true, false, not}
use mathlib.Core.List.{List, [], ◌∷◌, ◌++◌}
use Prim.Native.Nat.{ℕ, ◌+◌, ◌<◌}
use native.Mathlib.Omega.{arith}
use lib.Dec.{ltb, eqb}
use lib.ListN.{length, take, drop, length-append}
use lib.Seq.{drop-drop}
use borrow.Author.Tests.{ltb-true, eq-eqb, ne_eqb, eqb-true}
use Rattle.requests.specs.Entries.{below, same, above, other, ascends, keep, place, declare, remove}
use Rattle.requests.proofs.OnEntries.KeepLaws.{either, keep_append, keep-inside, keep-outside, keep-swap}
use Rattle.requests.proofs.OnEntries.OrderLaws.{first_rest, and_then, lower, keep-ascends, parts, take-place, drop-place}

module _ {A : Type 0} (key : A → ℕ) where
  -- ---- ascending

  above-ascends : (q low : ℕ) (rs : List A) → ascends key low rs ≡ true → ascends key q (keep key (above q) rs) ≡ true
  unfolding keep ascends
  above-ascends q low [] a = refl
  above-ascends q low (r ∷ rs) a =
      let f = first_rest key low r rs a in
      either (ltb q (key r))
      (λ e. rw e (and_then key q r (keep key (above q) rs) (ltb-true q (key r) e) (keep-ascends key (above q) (key r) rs f.1)))
      (λ e. rw e (above-ascends q (key r) rs f.1))

  joined : (r : A) (ys : List A) → ascends key (key r) ys ≡ true → (low : ℕ) (rs : List A) → low < key r → ascends key low rs ≡ true
      → ascends key low (keep key (below (key r)) rs ++ r ∷ ys) ≡ true
  unfolding keep
  joined r ys b low [] h a = and_then key low r ys h b
  joined r ys b low (x ∷ rs) h a =
      let f = first_rest key low x rs a in
      either (ltb (key x) (key r))
      (λ e. rw e (and_then key low x _ f.0 (joined r ys b (key x) rs (ltb-true (key x) (key r) e) f.1)))
      (λ e. rw e (joined r ys b low rs h (lower key low (key x) rs (omega arith) f.1)))

  pub declare-ascends : (low : ℕ) (r : A) (rs : List A) → low < key r → ascends key low rs ≡ true → ascends key low (declare key r rs) ≡ true
  unfolding declare
  declare-ascends low r rs h a = joined r _ (above-ascends (key r) low rs a) low rs h a

  pub remove-ascends : (low q : ℕ) (rs : List A) → ascends key low rs ≡ true → ascends key low (remove key q rs) ≡ true
  unfolding remove
  remove-ascends low q rs a = keep-ascends key (other q) low rs a

  -- ---- what a test keeps, by the three parts

  kept-parts : (p : ℕ → Bool) (q low : ℕ) (rs : List A) → ascends key low rs ≡ true
      → keep key p rs ≡ keep key p (keep key (below q) rs) ++ (keep key p (keep key (same q) rs) ++ keep key p (keep key (above q) rs))
  kept-parts p q low rs a =
      ap (keep key p) (parts key q low rs a) ∙ keep_append key p (keep key (below q) rs) _
      ∙ ap (λ (l : List A). keep key p (keep key (below q) rs) ++ l) (keep_append key p (keep key (same q) rs) _)

  kept-none : (p : ℕ → Bool) (q : ℕ) (rs : List A) → p q ≡ false → keep key p (keep key (same q) rs) ≡ []
  kept-none p q rs h = keep-outside key p (same q) (λ x e. ap p (eqb-true x q e) ∙ h) rs

  -- ---- a test that does not pass the key changed: another key

  pub declare-other : (p : ℕ → Bool) (low : ℕ) (r : A) (rs : List A) → p (key r) ≡ false → ascends key low rs ≡ true
      → keep key p (declare key r rs) ≡ keep key p rs
  unfolding declare keep
  declare-other p low r rs h a =
      keep_append key p (keep key (below (key r)) rs) (r ∷ keep key (above (key r)) rs)
      ∙ rw (h, kept-parts p (key r) low rs a, kept-none p (key r) rs h)

  pub remove-other : (p : ℕ → Bool) (q : ℕ) (rs : List A) → p q ≡ false → keep key p (remove key q rs) ≡ keep key p rs
  unfolding remove
  remove-other p q rs h =
      keep-swap key p (other q) rs
      ∙ keep-inside key (other q) p (λ x e. ap not (ne_eqb x q (λ z. let w : ◌≡◌ {A = ℕ} 0 1 = cc (ap p z) in omega arith))) rs

  -- ---- finding

  pub found_declared : (r : A) (rs : List A) → keep key (same (key r)) (declare key r rs) ≡ r ∷ []
  unfolding declare keep
  found_declared r rs =
      keep_append key (same (key r)) (keep key (below (key r)) rs) (r ∷ keep key (above (key r)) rs)
      ∙ rw (
        eq-eqb (key r) (key r) refl,
        keep-outside key (same (key r)) (below (key r)) (λ x e. let l = ltb-true x (key r) e in ne_eqb x (key r) (λ z. omega arith)) rs,
        keep-outside key (same (key r)) (above (key r)) (λ x e. let l = ltb-true (key r) x e in ne_eqb x (key r) (λ z. omega arith)) rs,
      )

  pub found-removed : (q : ℕ) (rs : List A) → keep key (same q) (remove key q rs) ≡ []
  unfolding remove
  found-removed q rs = keep-outside key (same q) (other q) (λ x e. either (eqb x q) (λ f. let w : ◌≡◌ {A = ℕ} 0 1 = cc (ap not f) in absurd (omega arith)) (λ f. f)) rs

  -- ---- removing, by the parts

  module _ (q low : ℕ) (rs : List A) (a : ascends key low rs ≡ true) where
    remove-parts : remove key q rs ≡ keep key (below q) rs ++ keep key (above q) rs
    unfolding remove
    remove-parts =
        kept-parts (other q) q low rs a
        ∙ rw (
          keep-inside key (other q) (below q) (λ x e. let l = ltb-true x q e in ap not (ne_eqb x q (λ z. omega arith))) rs,
          kept-none (other q) q rs (ap not (eq-eqb q q refl)),
          keep-inside key (other q) (above q) (λ x e. let l = ltb-true q x e in ap not (ne_eqb x q (λ z. omega arith))) rs,
        )

    pub remove_absent : keep key (same q) rs ≡ [] → remove key q rs ≡ rs
    remove_absent n = remove-parts ∙ sym (parts key q low rs a ∙ rw n)

    -- ---- in place, where i is the place of q

    abbrev i : ℕ
    i = place key q rs

    pub placed-new : (r : A) → key r ≡ q → keep key (same q) rs ≡ [] → take i rs ++ r ∷ drop i rs ≡ declare key r rs
    unfolding declare
    placed-new r e n = rw (take-place key q low rs a, drop-place key q low rs a, n, e)

    after-place : (x : A) → keep key (same q) rs ≡ x ∷ [] → drop (i + 1) rs ≡ keep key (above q) rs
    after-place x n = sym (drop-drop 1 i rs) ∙ rw (drop-place key q low rs a, n)

    pub placed-over : (x r : A) → key r ≡ q → keep key (same q) rs ≡ x ∷ [] → take i rs ++ r ∷ drop (i + 1) rs ≡ declare key r rs
    unfolding declare
    placed-over x r e n = rw (take-place key q low rs a, after-place x n, e)

    pub placed-out : (x : A) → keep key (same q) rs ≡ x ∷ [] → take i rs ++ drop (i + 1) rs ≡ remove key q rs
    placed-out x n = rw (take-place key q low rs a, after-place x n) (sym remove-parts)

  -- ---- an entry with a new key, declared and removed again

  pub declare-remove : (low : ℕ) (r : A) (rs : List A) → ascends key low rs ≡ true → keep key (same (key r)) rs ≡ [] → remove key (key r) (declare key r rs) ≡ rs
  unfolding remove
  declare-remove low r rs a n =
      declare-other (other (key r)) low r rs (ap not (eq-eqb (key r) (key r) refl)) a ∙ remove_absent (key r) low rs a n

-- ---- how many there are then

module _ {A : Type 0} (key : A → ℕ) (low : ℕ) (rs : List A) (a : ascends key low rs ≡ true) where
  pub declare-count : (r : A) → length (declare key r rs) + length (keep key (same (key r)) rs) ≡ length rs + 1
  unfolding declare
  declare-count r =
      let n : length rs ≡ length (keep key (below (key r)) rs) + (length (keep key (same (key r)) rs) + length (keep key (above (key r)) rs)) =
      ap length (parts key (key r) low rs a) ∙ rw (length-append, length-append) in
      rw length-append (omega arith)

  pub remove-count : (q : ℕ) → length (remove key q rs) + length (keep key (same q) rs) ≡ length rs
  remove-count q =
      let n : length rs ≡ length (keep key (below q) rs) + (length (keep key (same q) rs) + length (keep key (above q) rs)) =
      ap length (parts key q low rs a) ∙ rw (length-append, length-append) in
      rw (remove-parts key q low rs a, length-append) (omega arith)
