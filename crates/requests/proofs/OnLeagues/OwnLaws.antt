-- The keys of a league: a call's key is its own, no key is of two leagues, and where every entry is a league's the two have them all.
-- Assumes nothing.
use mathlib.Core.Path.{◌≡◌, refl, sym, subst, ◌∙◌}
use mathlib.Core.Bool.{Bool, true, false, ◌&&◌, ◌||◌, or-true}
use mathlib.Core.List.{List, [], ◌∷◌}
use Prim.Native.Nat.{ℕ, suc, ◌+◌, ◌*◌, ◌≤◌, ◌<◌}
use native.Mathlib.Omega.{arith}
use borrow.Author.Tests.{eqb-true, eqb-false, eq-eqb, ne_eqb, leb-true}
use lib.Dec.{leb, eqb}
use lib.ListN.{length}
use Rattle.rules.specs.Words.{big_endian}
use Rattle.rules.proofs.OnKinds.KindLaws.{left, right, low, high, yes-within}
use Rattle.requests.specs.Entries.{keep}
use Rattle.requests.specs.FieldTable.{key_in, is_key}
use Rattle.requests.specs.Leagues.{is_league, is_field, key_for, field_of, own_key, league_key, own, all_owned}
use Rattle.requests.proofs.OnEntries.KeepLaws.{either}

-- ---- a call's league and field

module _ (league field : ℕ) (call : (is_league league && is_field field) ≡ true) where
  abbrev is-league : is_league league ≡ true
  is-league = left (is_league league) _ call

  abbrev is_field_lem : is_field field ≡ true
  is_field_lem = right (is_league league) _ call

  pub call-own : own_key league (key_for league field) ≡ true
  call-own =
      let a = low 1 65535 field is_field_lem in
      let b = high 1 65535 field is_field_lem in
      yes-within (key_for league 1) (key_for league 65535) (key_for league field) (omega arith) (omega arith)

-- an own key of a league is one of three bytes
pub own-is-key : (league key : ℕ) → is_league league ≡ true → own_key league key ≡ true → is_key 3 key ≡ true
own-is-key league key g h =
    let a = high 1 2 league g in
    let b = low (key_for league 1) (key_for league 65535) key h in
    let c = high (key_for league 1) (key_for league 65535) key h in
    yes-within 1 16777215 key (omega arith) (omega arith)

-- it has a field, and is the key for it
pub own-field : (league key : ℕ) → own_key league key ≡ true → key ≡ key_for league (field_of key)
own-field league key h =
    let b = low (key_for league 1) (key_for league 65535) key h in
    let c = high (key_for league 1) (key_for league 65535) key h in
    omega arith

-- ---- the bytes of an entry: its key is that of its league and field, and a league's exactly where its league byte is 1 or 2 and its field
-- is not 0

module _ (league high' low' code : ℕ) (h : high' < 256) (l : low' < 256) where
  abbrev field : ℕ
  field = high' * 256 + low'

  pub bytes-key : key_in 3 (league ∷ high' ∷ low' ∷ code ∷ []) ≡ key_for league field
  unfolding key_in big_endian
  bytes-key = omega arith

  -- an own key of a league that is 1 or 2 has that league byte and a field
  named : (one : ℕ) → is_league one ≡ true → own_key one (key_for league field) ≡ true → (is_league league && is_field field) ≡ true
  named one g e =
      let a = low (key_for one 1) (key_for one 65535) (key_for league field) e in
      let b = high (key_for one 1) (key_for one 65535) (key_for league field) e in
      let z : one ≡ league = omega arith in
      let f : 1 ≤ field = omega arith in
      rw (← z) (rw (g, yes-within 1 65535 field f (omega arith)))

  pub league-byte : league_key (key_in 3 (league ∷ high' ∷ low' ∷ code ∷ [])) ≡ (is_league league && is_field field)
  league-byte = rw bytes-key (inner (is_league league && is_field field) refl)
    where
      no_own : (is_league league && is_field field) ≡ false → (one : ℕ) → is_league one ≡ true → own_key one (key_for league field) ≡ false
      no_own e one g = either (own_key one (key_for league field)) (λ t. t ∙ sym (named one g t) ∙ e) (λ t. t)

      inner : (t : Bool) → (is_league league && is_field field) ≡ t → league_key (key_for league field) ≡ t
      inner true e =
          let a = low 1 2 league (left (is_league league) _ e) in
          let b = high 1 2 league (left (is_league league) _ e) in
          let o = call-own league field e in
          either (eqb league 1)
          (λ f. rw (subst (λ g. own_key g (key_for league field) ≡ true) (eqb-true league 1 f) o))
          (λ f. let y = eqb-false league 1 f in let z : league ≡ 2 = omega arith in
          rw (subst (λ g. own_key g (key_for league field) ≡ true) z o) (or-true (own_key 1 (key_for league field))))
      inner false e = rw (no_own e 1 refl, no_own e 2 refl)

-- ---- no key is of two leagues

pub not-other : (one two key : ℕ) → (one ≡ two → ⊥) → own_key one key ≡ true → own_key two key ≡ false
not-other one two key d h =
    let a = low (key_for one 1) (key_for one 65535) key h in
    let b = high (key_for one 1) (key_for one 65535) key h in
    either (leb (key_for two 1) key)
    (λ e. let l = leb-true (key_for two 1) key e in
    either (leb key (key_for two 65535))
    (λ f. let m = leb-true key (key_for two 65535) f in absurd (d (omega arith)))
    (λ f. rw (e, f)))
    (λ e. rw e)

-- ---- the two leagues have all entries exactly where each is a league's

abbrev pub of-both : List (List ℕ) → ℕ
of-both rs = length (own 1 rs) + length (own 2 rs)

-- a first entry that is one league's counts once, and one that is no league's does not count
module _ (r : List ℕ) (rs : List (List ℕ)) where
  abbrev key : ℕ
  key = key_in 3 r

  first-counts : league_key key ≡ true → of-both (r ∷ rs) ≡ suc (of-both rs)
  unfolding keep
  first-counts h =
      either (own_key 1 key)
      (λ e. let f = not-other 1 2 key (λ z. omega arith) e in rw (e, f) (omega arith))
      (λ e. let f : own_key 2 key ≡ true = rw e at h in rw (e, f) (omega arith))

  first-not : league_key key ≡ false → of-both (r ∷ rs) ≡ of-both rs
  unfolding keep
  first-not h =
      either (own_key 1 key)
      (λ e. let z : true ≡ false = rw e at h in let w : ◌≡◌ {A = ℕ} 0 1 = cc in absurd (omega arith))
      (λ e. let f : own_key 2 key ≡ false = rw e at h in rw (e, f))

both_most : (rs : List (List ℕ)) → of-both rs ≤ length rs
unfolding keep
both_most [] = omega arith
both_most (r ∷ rs) =
    let more = both_most rs in
    either (league_key (key_in 3 r)) (λ h. omega (arith, first-counts r rs h)) (λ h. omega (arith, first-not r rs h))

suc-same : (a b : ℕ) → eqb a b ≡ eqb (suc a) (suc b)
suc-same a b =
    either (eqb a b)
    (λ e. let z = eqb-true a b e in rw (e, eq-eqb (suc a) (suc b) (omega arith)))
    (λ e. let z = eqb-false a b e in rw (e, ne_eqb (suc a) (suc b) (λ y. omega arith)))

pub owned-counts : (rs : List (List ℕ)) → all_owned rs ≡ eqb (of-both rs) (length rs)
unfolding all_owned keep
owned-counts [] = refl
owned-counts (r ∷ rs) =
    either (league_key (key_in 3 r))
    (λ h. rw (h, first-counts r rs h) (owned-counts rs ∙ suc-same (of-both rs) (length rs)))
    (λ h. rw (h, first-not r rs h) (sym (ne_eqb (of-both rs) (suc (length rs)) (λ z. omega (arith, both_most rs)))))

pub all-owned : (rs : List (List ℕ)) → all_owned rs ≡ true → length rs ≡ of-both rs
all-owned rs h = sym (eqb-true (of-both rs) (length rs) (sym (owned-counts rs) ∙ h))
