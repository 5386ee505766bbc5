-- A league's calls are those of #101 at a longer key: a lookup in a table that the leagues share, what a declaration and a removal change
-- of a league's lookups, and what they leave of its own and the other's; and 15, for a new field alone. Assumes nothing.
use mathlib.Core.Path.{◌≡◌, refl, sym, ap, ◌∙◌}
use mathlib.Core.Bool.{Bool, true, false, ◌&&◌}
use mathlib.Core.List.{List, []}
use Prim.Native.Nat.{ℕ, suc, ◌+◌, ◌*◌, ◌≤◌, ◌<◌}
use borrow.Author.Tests.{le-ltb, lt-ltb, lt-leb}
use lib.Dec.{ltb}
use lib.IntN.{ℤ}
use lib.ListN.{length}
use Rattle.rules.specs.Refusals.{Gives, Refused, ◌then◌, demand}
use Rattle.rules.specs.Book.{head_size}
use Rattle.rules.proofs.OnKinds.KindLaws.{left}
use Rattle.requests.specs.Entries.{some, standing, declare}
use Rattle.requests.specs.FieldTable.{table_full, key_in, declared_kind, game_kind, entry_for, declare_in, declare_buffer, remove_buffer, decode, guess, game_for, lookup}
use Rattle.requests.specs.Leagues.{table2, is_league, is_field, key_for, own, share_most, declare_own, own_declaration, own_declare_buffer, own_removal, own_remove_buffer, own_lookup}
use Rattle.requests.proofs.OnFieldTable.LookupLaws.{looks-declared, looks-beside, looks-removed, looks-left, declared-removed}
use Rattle.requests.proofs.OnLeagues.OwnLaws.{call-own, own-is-key}
use Rattle.requests.proofs.OnLeagues.SharedLaws.{sensible2, Shared, tells-shared, room-for-own}
use Rattle.requests.proofs.OnLeagues.AfterLaws.{entry_key, declared-so, as-declared, removed-so, as-removed, after-own-declare, after-own-remove}
use Rattle.requests.proofs.OnLeagues.ApartLaws.{room_for_all}

-- a call that names a league and a field
abbrev Names : ℕ → ℕ → Type 0
Names league field = (is_league league && is_field field) ≡ true

module _ (league field : ℕ) (names : Names league field) (game : ℕ) (z : ℤ) where
  -- its key is one of three bytes
  game-so : game_for 3 (key_for league field) game ≡ game_kind game
  unfolding game_for
  game-so = rw (own-is-key league (key_for league field) (left (is_league league) (is_field field) names) (call-own league field names))

  pub as-lookup : (s : List ℕ) (rs : List (List ℕ)) → Shared s rs → own_lookup s league field game z ≡ lookup table2 s (key_for league field) game z
  unfolding own_lookup lookup
  as-lookup s rs h = rw (tells-shared s rs h, names, h.found, game-so)

-- ---- after a declaration

module _ (s : List ℕ) (league field code : ℕ) (xs : List (List ℕ)) (e : own_declaration s league field code ≡ Gives xs) (game : ℕ) (z : ℤ) where
  abbrev d : declare_buffer table2 s (key_for league field) code ≡ own_declare_buffer s league field code
  d = rw (as-declared s league field code xs e, e)

  -- the league's lookup of that field decodes by that kind
  pub own-looks-declared : own_lookup (own_declare_buffer s league field code) league field game z ≡ (game_kind game then λ k. declared_kind code then decode z)
  own-looks-declared =
      let n = (declared-so s league field code xs e).called-so in
      as-lookup league field n game z (own_declare_buffer s league field code) xs (after-own-declare s league field xs code e)
      ∙ ap (λ (b : List ℕ). lookup table2 b (key_for league field) game z) (sym d)
      ∙ looks-declared table2 sensible2 s (key_for league field) code xs (as-declared s league field code xs e) game z ∙ rw (game-so league field n game z)

  -- of every other field of its own, and of each field of the other's, as before
  pub own-looks-beside : (other beside : ℕ) → Names other beside → (key_for other beside ≡ key_for league field → ⊥) →
      own_lookup (own_declare_buffer s league field code) other beside game z ≡ own_lookup s other beside game z
  own-looks-beside other beside n ne =
      let t = declared-so s league field code xs e in
      as-lookup other beside n game z (own_declare_buffer s league field code) xs (after-own-declare s league field xs code e)
      ∙ ap (λ (b : List ℕ). lookup table2 b (key_for other beside) game z) (sym d)
      ∙ looks-beside table2 sensible2 s (key_for league field) code xs (as-declared s league field code xs e) game z (key_for other beside) ne
      ∙ sym (as-lookup other beside n game z s t.rs t.has)

-- ---- after a removal

module _ (s : List ℕ) (league field : ℕ) (xs : List (List ℕ)) (e : own_removal s league field ≡ Gives xs) (game : ℕ) (z : ℤ) where
  abbrev r : remove_buffer table2 s (key_for league field) ≡ own_remove_buffer s league field
  r = rw (as-removed s league field xs e, e)

  -- that field is guessed
  pub own-looks-removed : own_lookup (own_remove_buffer s league field) league field game z ≡ (game_kind game then guess z)
  own-looks-removed =
      let n = (removed-so s league field xs e).called-so in
      as-lookup league field n game z (own_remove_buffer s league field) xs (after-own-remove s league field xs e)
      ∙ ap (λ (b : List ℕ). lookup table2 b (key_for league field) game z) (sym r)
      ∙ looks-removed table2 sensible2 s (key_for league field) xs (as-removed s league field xs e) game z ∙ rw (game-so league field n game z)

  pub own-looks-left : (other beside : ℕ) → Names other beside → (key_for other beside ≡ key_for league field → ⊥) →
      own_lookup (own_remove_buffer s league field) other beside game z ≡ own_lookup s other beside game z
  own-looks-left other beside n ne =
      let t = removed-so s league field xs e in
      as-lookup other beside n game z (own_remove_buffer s league field) xs (after-own-remove s league field xs e)
      ∙ ap (λ (b : List ℕ). lookup table2 b (key_for other beside) game z) (sym r)
      ∙ looks-left table2 sensible2 s (key_for league field) xs (as-removed s league field xs e) game z (key_for other beside) ne
      ∙ sym (as-lookup other beside n game z s t.rs t.has)

-- ---- a new field, declared and removed again: the entries of both leagues are as they were

pub own-declared-removed : (s : List ℕ) (league field code : ℕ) (was xs ys : List (List ℕ)) → Shared s was → standing (key_in 3) (key_for league field) was ≡ [] →
    own_declaration s league field code ≡ Gives xs → own_removal (own_declare_buffer s league field code) league field ≡ Gives ys → ys ≡ was
own-declared-removed s league field code was xs ys h none e f =
    let q = key_for league field in
    let b : own_declare_buffer s league field code ≡ declare_buffer table2 s q code = rw (as-declared s league field code xs e, e) in
    declared-removed table2 sensible2 s q code was xs ys h.found none (as-declared s league field code xs e)
    (rw b at (as-removed (own_declare_buffer s league field code) league field ys f))

-- ---- 15: for a new field, at a full share or in a short buffer

module _ (s : List ℕ) (rs : List (List ℕ)) (h : Shared s rs) (league field code : ℕ) (names : Names league field)
    (r : List ℕ) (e : entry_for 3 (key_for league field) code ≡ Gives r) where
  abbrev held : ℕ
  held = length (own league rs)

  by-share : own_declaration s league field code ≡ declare_own s league rs r
  unfolding own_declaration
  by-share = rw (tells-shared s rs h, names, e)

  its-key : key_in 3 r ≡ key_for league field
  its-key = entry_key s league field code r e

  -- a field that is there is declared again, at a full share and in a full buffer too
  pub redeclares : some (standing (key_in 3) (key_for league field) rs) ≡ true → own_declaration s league field code ≡ Gives (declare (key_in 3) r rs)
  unfolding declare_own declare_in
  redeclares t = by-share ∙ rw (its-key, t)

  module _ (none : standing (key_in 3) (key_for league field) rs ≡ []) where
    pub full-share : share_most ≤ held → own_declaration s league field code ≡ Refused table_full
    unfolding declare_own
    full-share l = by-share ∙ rw (its-key, none, le-ltb held share_most l)

    pub short-buffer : held < share_most → length s < head_size + suc (length rs) * 4 → own_declaration s league field code ≡ Refused table_full
    unfolding declare_own declare_in
    short-buffer l g =
        by-share ∙ rw (its-key, none, lt-ltb held share_most l, lt-leb (head_size + suc (length rs) * 4) (length s) g) (no_room (ltb (length rs) 2048))
      where
        no_room : (t : Bool) → demand (t && false) table_full (Gives (declare (key_in 3) r rs)) ≡ Refused table_full
        no_room true = refl
        no_room false = refl

    -- the other league's fullness refuses nothing
    pub own_room : held < share_most → room_for_all ≤ length s → own_declaration s league field code ≡ Gives (declare (key_in 3) r rs)
    unfolding declare_own declare_in
    own_room l g =
        by-share ∙ rw (its-key, none, lt-ltb held share_most l, room-for-own s rs h g league (left (is_league league) (is_field field) names) l)
