-- The part of some entries that a test of the key keeps: what a change of an entry whose key passes does to it, what is found in it, how
-- many it has then, and where the entries between two keys stand. Over the entries, the key and the test. Assumes nothing.
use mathlib.Core.Path.{◌≡◌, refl, ap, ◌∙◌}
use mathlib.Core.Bool.{Bool, true, false, and-false}
use mathlib.Core.List.{List, [], ◌∷◌}
use Prim.Native.Nat.{ℕ, zero, suc, ◌+◌, ◌≤◌, ◌<◌}
use native.Mathlib.Nat.{zero-add}
use native.Mathlib.Omega.{arith}
use borrow.Author.Tests.{eqb-true, le-leb, lt-leb, lt-ltb, le-ltb, ltb-true, ltb-false}
use lib.Dec.{leb, ltb}
use lib.ListN.{length}
use Rattle.rules.specs.Words.{within}
use Rattle.rules.specs.Book.{pick}
use Rattle.requests.specs.Entries.{below, same, above, other, ascends, keep, place, declare, remove}
use Rattle.requests.proofs.OnEntries.KeepLaws.{either, keep_append, keep-inside, keep-swap}
use Rattle.requests.proofs.OnEntries.OrderLaws.{first_rest, past, none_below, keep-ascends, place-less, place-first}
use Rattle.requests.proofs.OnEntries.ChangeLaws.{declare-count, remove-count}

module _ {A : Type 0} (key : A → ℕ) where
  -- ---- a change of an entry whose key passes the test is a change of the part

  pub declare-own : (p : ℕ → Bool) (r : A) (rs : List A) → p (key r) ≡ true → keep key p (declare key r rs) ≡ declare key r (keep key p rs)
  unfolding declare keep
  declare-own p r rs h =
      keep_append key p (keep key (below (key r)) rs) (r ∷ keep key (above (key r)) rs)
      ∙ rw (h, keep-swap key p (below (key r)) rs, keep-swap key p (above (key r)) rs)

  pub remove-own : (p : ℕ → Bool) (q : ℕ) (rs : List A) → keep key p (remove key q rs) ≡ remove key q (keep key p rs)
  unfolding remove
  remove-own p q rs = keep-swap key p (other q) rs

  -- what is found is found in the part
  pub found_within : (p : ℕ → Bool) (q : ℕ) (rs : List A) → p q ≡ true → keep key (same q) (keep key p rs) ≡ keep key (same q) rs
  found_within p q rs h = keep-swap key (same q) p rs ∙ keep-inside key p (same q) (λ x e. ap p (eqb-true x q e) ∙ h) rs

  -- ---- how many: the part has as many more or fewer as all have

  module _ (p : ℕ → Bool) (rs : List A) (a : ascends key 0 rs ≡ true) where
    part_ascends : ascends key 0 (keep key p rs) ≡ true
    part_ascends = keep-ascends key p 0 rs a

    pub own-declare-count : (r : A) → p (key r) ≡ true → length (keep key p (declare key r rs)) + length rs ≡ length (keep key p rs) + length (declare key r rs)
    own-declare-count r h =
        let all = declare-count key 0 rs a r in
        let part = declare-count key 0 (keep key p rs) part_ascends r in
        let same-one = ap length (found_within p (key r) rs h) in
        rw (declare-own p r rs h) (omega arith)

    pub own-remove-count : (q : ℕ) → p q ≡ true → length (keep key p (remove key q rs)) + length rs ≡ length (keep key p rs) + length (remove key q rs)
    own-remove-count q h =
        let all = remove-count key 0 rs a q in
        let part = remove-count key 0 (keep key p rs) part_ascends q in
        let same-one = ap length (found_within p q rs h) in
        rw (remove-own p q rs) (omega arith)

  -- a part is no more than all
  pub part-fewer : (p : ℕ → Bool) (rs : List A) → length (keep key p rs) ≤ length rs
  unfolding keep
  part-fewer p [] = omega arith
  part-fewer p (r ∷ rs) = let more = part-fewer p rs in either (p (key r)) (λ e. rw e (omega arith)) (λ e. rw e (omega arith))

  -- ---- the entries from one key to another

  split-on : {C : Type 0} (x q : ℕ) → (x < q → C) → (q ≤ x → C) → C
  split-on x q f g = either (ltb x q) (λ e. f (ltb-true x q e)) (λ e. g (ltb-false x q e))

  -- they are as many as the places of the first key and of the one after the last are apart: no loop is needed to count them
  pub place-between : (lo hi : ℕ) → lo ≤ suc hi → (rs : List A) → place key (suc hi) rs ≡ place key lo rs + length (keep key (within lo hi) rs)
  unfolding place keep
  place-between lo hi h [] = refl
  place-between lo hi h (r ∷ rs) =
      let more = place-between lo hi h rs in
      split-on (key r) lo
      (λ l. rw (lt-ltb (key r) (suc hi) (omega arith), lt-ltb (key r) lo l, lt-leb lo (key r) l) (omega arith))
      (λ l. split-on (key r) (suc hi)
      (λ g. rw (lt-ltb (key r) (suc hi) g, le-ltb (key r) lo l, le-leb lo (key r) l, le-leb (key r) hi (omega arith)) (omega arith))
      (λ g. rw (le-ltb (key r) (suc hi) g, le-ltb (key r) lo l, le-leb lo (key r) l, lt-leb (key r) hi (omega arith)) (omega arith)))

-- ---- the entry at a place of such a part: so far after the first of the part

module _ (key : List ℕ → ℕ) (lo hi : ℕ) where
  -- none of those after an entry that is not below lo is
  front : (r : List ℕ) (rs : List (List ℕ)) → lo ≤ key r → ascends key (key r) rs ≡ true → place key lo rs ≡ 0
  unfolding place
  front r rs h a = ap length (none_below key lo (key r) rs (omega arith) a)

  -- nor is one of those after an entry past hi within
  behind : (r : List ℕ) (rs : List (List ℕ)) → hi < key r → ascends key (key r) rs ≡ true → keep key (within lo hi) rs ≡ []
  behind r rs h a = past key (within lo hi) false (key r) (λ x g. rw (lt-leb x hi (omega arith)) (and-false (leb lo x))) rs a

  pub part-pick : (low : ℕ) (rs : List (List ℕ)) → ascends key low rs ≡ true → (i : ℕ) → i < length (keep key (within lo hi) rs) →
      pick (keep key (within lo hi) rs) i ≡ pick rs (place key lo rs + i)
  unfolding keep pick
  part-pick low [] a i h = absurd (omega arith)
  part-pick low (r ∷ rs) a i h =
      let more = (first_rest key low r rs a).1 in
      split-on key (key r) lo
      (λ l. let e = lt-leb lo (key r) l in
      let z : suc (place key lo rs) + i ≡ suc (place key lo rs + i) = omega arith in
      rw (e, place-less key lo r rs l, z) (part-pick (key r) rs more i (rw e at h)))
      (λ l. split-on key (key r) (suc hi)
      (λ g. let e = le-leb lo (key r) l in let f = le-leb (key r) hi (omega arith) in
      rw (e, f, place-first key lo low r rs l a, zero-add i) (inside l more (λ j q. part-pick (key r) rs more j q) i (rw (e, f) at h)))
      (λ g. let f = lt-leb (key r) hi (omega arith) in
      absurd (omega (arith, ap length (behind r rs (omega arith) more), rw (f, and-false (leb lo (key r))) at h))))
    where
      inside : lo ≤ key r → ascends key (key r) rs ≡ true → ((j : ℕ) → j < length (keep key (within lo hi) rs) → pick (keep key (within lo hi) rs) j ≡ pick rs (place key lo rs + j)) →
          (j : ℕ) → j < suc (length (keep key (within lo hi) rs)) →
          pick (r ∷ keep key (within lo hi) rs) j ≡ pick (r ∷ rs) j
      inside l more rest zero g = refl
      inside l more rest (suc j) g = rw (front r rs l more, zero-add) at (rest j (omega arith))
