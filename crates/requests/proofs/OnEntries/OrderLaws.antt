-- Ascending entries: each key past a bound, what keeping leaves, and the place of a key, by halving and from the first on. Assumes nothing.
use mathlib.Core.Path.{◌≡◌, refl, sym, ap, ◌∙◌}
use mathlib.Core.Bool.{Bool, true, false, cond, ◌&&◌}
use mathlib.Core.List.{List, [], ◌∷◌, ◌++◌}
use Prim.Native.Nat.{ℕ, zero, suc, ◌+◌, ◌<◌, ◌≤◌}
use native.Mathlib.Omega.{arith}
use lib.Dec.{ltb, leb, eqb}
use lib.ListN.{length, get_or, take, drop, length-append}
use lib.Seq.{take_at, drop_at}
use borrow.Author.Tests.{ltb-true, ltb-false, lt-ltb, le-ltb, le-leb, lt-leb, eq-eqb, ne_eqb, eqb-true, eqb-false}
use Rattle.requests.specs.Entries.{below, same, above, ascends, keep, place}
use Rattle.requests.proofs.OnEntries.KeepLaws.{either, both}

module _ {A : Type 0} (key : A → ℕ) where
  -- the first is above the bound, and the rest ascend from it
  pub first_rest : (low : ℕ) (r : A) (rs : List A) → ascends key low (r ∷ rs) ≡ true → (low < key r) × (ascends key (key r) rs ≡ true)
  unfolding ascends
  first_rest low r rs a = let h = both (ltb low (key r)) (ascends key (key r) rs) a in (ltb-true low (key r) h.0, h.1)

  pub and_then : (low : ℕ) (r : A) (rs : List A) → low < key r → ascends key (key r) rs ≡ true → ascends key low (r ∷ rs) ≡ true
  unfolding ascends
  and_then low r rs h a = rw (lt-ltb low (key r) h) a

  -- a lower bound serves too
  pub lower : (low' low : ℕ) (rs : List A) → low' ≤ low → ascends key low rs ≡ true → ascends key low' rs ≡ true
  unfolding ascends
  lower low' low [] h a = refl
  lower low' low (r ∷ rs) h a = let f = first_rest low r rs a in and_then low' r rs (omega arith) f.1

  -- each is above the bound
  pub each-above : (low : ℕ) (rs : List A) → ascends key low rs ≡ true → (i : ℕ) (d : A) → i < length rs → low < key (get_or rs i d)
  each-above low [] a i d h = absurd (omega arith)
  each-above low (r ∷ rs) a zero d h = (first_rest low r rs a).0
  each-above low (r ∷ rs) a (suc i) d h =
      let f = first_rest low r rs a in let g = each-above (key r) rs f.1 i d (omega arith) in omega arith

  -- a test that answers t of all that lies past the bound keeps all or none
  pub past : (p : ℕ → Bool) (t : Bool) (low : ℕ) → ((x : ℕ) → low < x → p x ≡ t) → (rs : List A) → ascends key low rs ≡ true → keep key p rs ≡ cond t rs []
  unfolding keep
  past p true low h [] a = refl
  past p false low h [] a = refl
  past p true low h (r ∷ rs) a =
      let f = first_rest low r rs a in rw (h (key r) f.0, past p true (key r) (λ x g. h x (omega arith)) rs f.1)
  past p false low h (r ∷ rs) a =
      let f = first_rest low r rs a in rw (h (key r) f.0, past p false (key r) (λ x g. h x (omega arith)) rs f.1)

  -- what is kept ascends
  pub keep-ascends : (p : ℕ → Bool) (low : ℕ) (rs : List A) → ascends key low rs ≡ true → ascends key low (keep key p rs) ≡ true
  unfolding keep
  keep-ascends p low [] a = a
  keep-ascends p low (r ∷ rs) a =
      let f = first_rest low r rs a in let more = keep-ascends p (key r) rs f.1 in
      either (p (key r)) (λ e. rw e (and_then low r (keep key p rs) f.0 more)) (λ e. rw e (lower low (key r) (keep key p rs) (omega arith) more))

  -- ---- the place of a key

  pub none_below : (q low : ℕ) (rs : List A) → q ≤ suc low → ascends key low rs ≡ true → keep key (below q) rs ≡ []
  none_below q low rs h a = past (below q) false low (λ x g. le-ltb x q (omega arith)) rs a

  none-same : (q low : ℕ) (rs : List A) → q ≤ low → ascends key low rs ≡ true → keep key (same q) rs ≡ []
  none-same q low rs h a = past (same q) false low (λ x g. ne_eqb x q (λ e. omega arith)) rs a

  all_above : (q low : ℕ) (rs : List A) → q ≤ low → ascends key low rs ≡ true → keep key (above q) rs ≡ rs
  all_above q low rs h a = past (above q) true low (λ x g. lt-ltb q x (omega arith)) rs a

  place_none : (q : ℕ) → place key q [] ≡ 0
  unfolding place keep
  place_none q = refl

  pub place-less : (q : ℕ) (r : A) (rs : List A) → key r < q → place key q (r ∷ rs) ≡ suc (place key q rs)
  unfolding place keep
  place-less q r rs h = rw (lt-ltb (key r) q h)

  pub place-first : (q low : ℕ) (r : A) (rs : List A) → q ≤ key r → ascends key low (r ∷ rs) ≡ true → place key q (r ∷ rs) ≡ 0
  unfolding place keep
  place-first q low r rs h a = rw (le-ltb (key r) q h, none_below q (key r) rs (omega arith) (first_rest low r rs a).1)

  -- by cases: the first key is below q, or it is not
  split-on : {C : Type 0} (x q : ℕ) → (x < q → C) → (q ≤ x → C) → C
  split-on x q f g = either (ltb x q) (λ e. f (ltb-true x q e)) (λ e. g (ltb-false x q e))

  -- an entry below q stands before the place of q, and any other does not: what a turn of the halving needs
  pub place_after : (q low : ℕ) (rs : List A) → ascends key low rs ≡ true → (i : ℕ) (d : A) → i < length rs → key (get_or rs i d) < q → i < place key q rs
  place_after q low [] a i d h l = absurd (omega arith)
  place_after q low (r ∷ rs) a zero d h l = rw (place-less q r rs l) (omega arith)
  place_after q low (r ∷ rs) a (suc i) d h l =
      let f = first_rest low r rs a in
      let g = each-above (key r) rs f.1 i d (omega arith) in
      let more = place_after q (key r) rs f.1 i d (omega arith) l in
      rw (place-less q r rs (omega arith)) (omega arith)

  pub place-before : (q low : ℕ) (rs : List A) → ascends key low rs ≡ true → (i : ℕ) (d : A) → i < length rs → q ≤ key (get_or rs i d) → place key q rs ≤ i
  place-before q low [] a i d h l = absurd (omega arith)
  place-before q low (r ∷ rs) a zero d h l = rw (place-first q low r rs l a) (omega arith)
  place-before q low (r ∷ rs) a (suc i) d h l =
      let more = place-before q (key r) rs (first_rest low r rs a).1 i d (omega arith) l in
      split-on (key r) q (λ g. rw (place-less q r rs g) (omega arith)) (λ g. rw (place-first q low r rs g a) (omega arith))

  pub place-within : (q : ℕ) (rs : List A) → place key q rs ≤ length rs
  unfolding place keep
  place-within q [] = omega arith
  place-within q (r ∷ rs) =
      let more = place-within q rs in either (ltb (key r) q) (λ e. rw e (omega arith)) (λ e. rw e (omega arith))

  -- ---- the three parts of ascending entries

  pub parts : (q low : ℕ) (rs : List A) → ascends key low rs ≡ true → rs ≡ keep key (below q) rs ++ (keep key (same q) rs ++ keep key (above q) rs)
  unfolding keep
  parts q low [] a = refl
  parts q low (r ∷ rs) a =
      let f = first_rest low r rs a in
      split-on (key r) q
      (λ h. rw (lt-ltb (key r) q h, ne_eqb (key r) q (λ e. omega arith), le-ltb q (key r) (omega arith)) (ap (λ (l : List A). r ∷ l) (parts q (key r) rs f.1)))
      (λ h. let none = none_below q (key r) rs (omega arith) f.1 in
      let same_not = none-same q (key r) rs h f.1 in
      let all = all_above q (key r) rs h f.1 in
      either (eqb (key r) q)
      (λ e. let z = eqb-true (key r) q e in rw (le-ltb (key r) q h, e, le-ltb q (key r) (omega arith), none, same_not, all))
      (λ e. let z = eqb-false (key r) q e in rw (le-ltb (key r) q h, e, lt-ltb q (key r) (omega arith), none, same_not, all)))

  module _ (q low : ℕ) (rs : List A) (a : ascends key low rs ≡ true) where
    pub take-place : take (place key q rs) rs ≡ keep key (below q) rs
    unfolding place
    take-place = ap (take (place key q rs)) (parts q low rs a) ∙ take_at (keep key (below q) rs) _ _ refl

    pub drop-place : drop (place key q rs) rs ≡ keep key (same q) rs ++ keep key (above q) rs
    unfolding place
    drop-place = ap (drop (place key q rs)) (parts q low rs a) ∙ drop_at (keep key (below q) rs) _ _ refl

  -- the entry with key q stands at its place, or there is none
  pub stands : (q low : ℕ) (rs : List A) → ascends key low rs ≡ true → (d : A) → place key q rs < length rs → key (get_or rs (place key q rs) d) ≡ q
      → keep key (same q) rs ≡ get_or rs (place key q rs) d ∷ []
  unfolding keep
  stands q low [] a d h e = absurd (omega arith)
  stands q low (r ∷ rs) a d h e =
      let f = first_rest low r rs a in
      split-on (key r) q
      (λ l. let p = place-less q r rs l in let h' = rw p at h in let e' = rw p at e in
      rw (p, ne_eqb (key r) q (λ z. omega arith)) (stands q (key r) rs f.1 d (omega arith) e'))
      (λ l. let p = place-first q low r rs l a in let e' : key r ≡ q = rw p at e in
      rw (p, eq-eqb (key r) q e', none-same q (key r) rs l f.1))

  pub absent : (q low : ℕ) (rs : List A) → ascends key low rs ≡ true → (d : A)
      → (place key q rs < length rs → key (get_or rs (place key q rs) d) ≡ q → ⊥) → keep key (same q) rs ≡ []
  unfolding keep
  absent q low [] a d h = refl
  absent q low (r ∷ rs) a d h =
      let f = first_rest low r rs a in
      split-on (key r) q
      (λ l. let p = place-less q r rs l in
      rw (ne_eqb (key r) q (λ z. omega arith)) (absent q (key r) rs f.1 d (λ g e. h (rw p (omega arith)) (rw p e))))
      (λ l. let p = place-first q low r rs l a in
      rw (ne_eqb (key r) q (λ z. h (rw p (omega arith)) (rw p z)), none-same q (key r) rs l f.1))

  -- no two entries have the same key
  pub once : (q low : ℕ) (rs : List A) → ascends key low rs ≡ true → (x : A) (ys : List A) → keep key (same q) rs ≡ x ∷ ys → keep key (same q) rs ≡ x ∷ []
  unfolding keep
  once q low [] a x ys e = absurd (omega (arith, ap length e))
  once q low (r ∷ rs) a x ys e =
      let f = first_rest low r rs a in
      either (eqb (key r) q)
      (λ t. let l : q ≤ key r = omega (arith, eqb-true (key r) q t) in let none = none-same q (key r) rs l f.1 in
      let e' : r ∷ [] ≡ x ∷ ys = rw (t, none) at e in let z : r ≡ x = cc in rw (t, none, z))
      (λ t. rw t (once q (key r) rs f.1 x ys (rw t at e)))

  -- where there is one, its place is that of an entry
  pub place_inside : (q low : ℕ) (rs : List A) → ascends key low rs ≡ true → (x : A) → keep key (same q) rs ≡ x ∷ [] → place key q rs < length rs
  unfolding place
  place_inside q low rs a x e =
      let n : length rs ≡ length (keep key (below q) rs) + suc (length (keep key (above q) rs)) =
      ap length (parts q low rs a) ∙ rw (length-append, e) in
      omega arith
