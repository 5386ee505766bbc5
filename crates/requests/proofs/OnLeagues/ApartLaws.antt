-- "a league's lookups, additions, removals and their refusals depend only on its own entries and its call": what each call answers, from
-- the league's own entries; and "the other league's entries are untouched". Assumes nothing.
use mathlib.Core.Path.{◌≡◌, refl, sym, ap, ◌∙◌}
use mathlib.Core.Bool.{Bool, true, false, ◌&&◌, ◌||◌}
use mathlib.Core.List.{List}
use Prim.Native.Nat.{ℕ, ◌+◌, ◌*◌, ◌≤◌}
use borrow.Author.Tests.{ltb-true}
use lib.Dec.{ltb}
use lib.IntN.{ℤ}
use lib.ListN.{length}
use Rattle.rules.specs.Refusals.{Answer, Gives, Refused, RefusedAt, ◌then◌, demand}
use Rattle.rules.specs.Book.{head_size, pick}
use Rattle.rules.proofs.OnKinds.KindLaws.{left}
use Rattle.rules.proofs.OnBook.FrameLaws.{demand-met}
use Rattle.requests.specs.Entries.{some, standing, declare, remove}
use Rattle.requests.specs.FieldTable.{bad_entry, table_full, not_there, key_in, Declared, declared_by, entry_for, declare_in, remove_in, table_buffer, game_kind, Looked, look_by}
use Rattle.requests.specs.Leagues.{table2, is_league, is_field, key_for, own_key, own, share_most, shared_entries, own_of, own_entries, own_declared, own_entry_at, called, declare_own, own_declaration, own_declare_buffer, own_removal, own_remove_buffer, own_lookup}
use Rattle.requests.proofs.OnEntries.KeepLaws.{either}
use Rattle.requests.proofs.OnEntries.PartLaws.{declare-own, remove-own, found_within}
use Rattle.requests.proofs.OnLeagues.OwnLaws.{call-own}
use Rattle.requests.proofs.OnLeagues.SharedLaws.{Shared, tells-shared, room-for-own}
use Rattle.requests.proofs.OnLeagues.AfterLaws.{entry_key, declared-changes, removed-changes, after-own-declare, after-own-remove}

-- the room for all 2,048 entries
abbrev pub room_for_all : ℕ
room_for_all = head_size + 2048 * 4

-- ---- the answers, from the own entries `mine` alone

module _ (league : ℕ) (mine : List (List ℕ)) where
  abbrev pub entries_from : Answer (List (List ℕ))
  entries_from = demand (is_league league) bad_entry (Gives mine)

  abbrev pub entry_from : ℕ → Answer Declared
  entry_from place = entries_from then λ rs. pick rs place then declared_by 3 then λ d. Gives (own_declared d)

  abbrev pub looked_from : ℕ → ℕ → ℤ → Answer Looked
  looked_from field game z = called league field (game_kind game) then λ k. look_by 3 (standing (key_in 3) (key_for league field) mine) k z

  -- the own entries then
  abbrev pub put_from : List ℕ → Answer (List (List ℕ))
  put_from r = demand (some (standing (key_in 3) (key_in 3 r) mine) || ltb (length mine) share_most) table_full (Gives (declare (key_in 3) r mine))

  abbrev pub declared_from : ℕ → ℕ → Answer (List (List ℕ))
  declared_from field code = called league field (entry_for 3 (key_for league field) code) then put_from

  abbrev pub removed_from : ℕ → Answer (List (List ℕ))
  removed_from field = called league field (remove_in 3 (key_for league field) mine)

-- ---- each call answers that

module _ (s : List ℕ) (rs : List (List ℕ)) (h : Shared s rs) (league : ℕ) where
  are : shared_entries s ≡ Gives rs
  are = tells-shared s rs h

  pub own-entries : own_entries s league ≡ entries_from league (own league rs)
  unfolding own_entries
  own-entries = rw are

  pub own-entry : (place : ℕ) → own_entry_at s league place ≡ entry_from league (own league rs) place
  unfolding own_entry_at
  own-entry place = rw own-entries

  pub own-lookup : (field game : ℕ) (z : ℤ) → own_lookup s league field game z ≡ looked_from league (own league rs) field game z
  unfolding own_lookup
  own-lookup field game z = rw are (inner (is_league league && is_field field) refl)
    where
      inner : (t : Bool) → (is_league league && is_field field) ≡ t →
          ◌≡◌ {A = Answer Looked} (demand t bad_entry (game_kind game) then λ k. look_by 3 (standing (key_in 3) (key_for league field) rs) k z)
          (demand t bad_entry (game_kind game) then λ k. look_by 3 (standing (key_in 3) (key_for league field) (own league rs)) k z)
      inner true e = rw (found_within (key_in 3) (own_key league) (key_for league field) rs (call-own league field e))
      inner false e = refl

  -- a declaration: in a buffer for all entries the room is there while the own share is not full, whatever the other league has
  module _ (room : room_for_all ≤ length s) where
    own_put : (r : List ℕ) → is_league league ≡ true → own_key league (key_in 3 r) ≡ true → own_of league (declare_own s league rs r) ≡ put_from league (own league rs) r
    unfolding declare_own declare_in own_of
    own_put r is mine =
        rw (found_within (key_in 3) (own_key league) (key_in 3 r) rs mine)
        (either (some (standing (key_in 3) (key_in 3 r) rs))
        (λ e. rw e (ap Gives (declare-own (key_in 3) (own_key league) r rs mine)))
        (λ e. either (ltb (length (own league rs)) share_most)
        (λ f. rw (e, f, room-for-own s rs h room league is (ltb-true (length (own league rs)) share_most f)) (ap Gives (declare-own (key_in 3) (own_key league) r rs mine)))
        (λ f. rw (e, f))))

    pub own-declaration : (field code : ℕ) → own_of league (own_declaration s league field code) ≡ declared_from league (own league rs) field code
    unfolding own_declaration own_of
    own-declaration field code = rw are (inner (called league field (entry_for 3 (key_for league field) code)) refl)
      where
        inner : (x : Answer (List ℕ)) → called league field (entry_for 3 (key_for league field) code) ≡ x →
            own_of league (x then declare_own s league rs) ≡ (x then put_from league (own league rs))
        inner (Gives r) p =
            let d = demand-met (is_league league && is_field field) bad_entry (entry_for 3 (key_for league field) code) r p in
            let k = entry_key s league field code r d.1 in
            own_put r (left (is_league league) (is_field field) d.0) (rw k (call-own league field d.0))
        inner (Refused n) p = refl
        inner (RefusedAt n place) p = refl

  pub own-removal : (field : ℕ) → own_of league (own_removal s league field) ≡ removed_from league (own league rs) field
  unfolding own_removal remove_in own_of
  own-removal field = rw are (inner (is_league league && is_field field) refl)
    where
      inner : (t : Bool) → (is_league league && is_field field) ≡ t →
          own_of league (demand t bad_entry (demand (some (standing (key_in 3) (key_for league field) rs)) not_there (Gives (remove (key_in 3) (key_for league field) rs))))
          ≡ demand t bad_entry (demand (some (standing (key_in 3) (key_for league field) (own league rs))) not_there (Gives (remove (key_in 3) (key_for league field) (own league rs))))
      inner true e =
          rw (found_within (key_in 3) (own_key league) (key_for league field) rs (call-own league field e))
          (either (some (standing (key_in 3) (key_for league field) rs)) (λ f. rw f (ap Gives (remove-own (key_in 3) (own_key league) (key_for league field) rs))) (λ f. rw f))
      inner false e = refl

-- ---- "whatever league g does, the other league's entries are untouched", in any buffer

module _ (s : List ℕ) (league other : ℕ) (ne : league ≡ other → ⊥) (field : ℕ) where
  same-part : (t : List ℕ) (was xs : List (List ℕ)) → Shared s was → Shared t xs → own other xs ≡ own other was → own_entries t other ≡ own_entries s other
  same-part t was xs h g e = own-entries t xs g other ∙ rw e (sym (own-entries s was h other))

  -- at a refusal the buffer is what it was
  untouched : (freed : ℕ) (x : Answer (List (List ℕ))) → ((xs : List (List ℕ)) → x ≡ Gives xs → own_entries (table_buffer table2 freed x s) other ≡ own_entries s other) →
      own_entries (table_buffer table2 freed x s) other ≡ own_entries s other
  unfolding table_buffer
  untouched freed (Gives xs) f = f xs refl
  untouched freed (Refused n) f = refl
  untouched freed (RefusedAt n place) f = refl

  pub untouched-declare : (code : ℕ) → own_entries (own_declare_buffer s league field code) other ≡ own_entries s other
  untouched-declare code =
      untouched 0 (own_declaration s league field code)
      (λ xs p. let c = declared-changes s league field code xs p in
      same-part (own_declare_buffer s league field code) c.was xs c.shared (after-own-declare s league field xs code p) (c.others other ne))

  pub untouched-remove : own_entries (own_remove_buffer s league field) other ≡ own_entries s other
  untouched-remove =
      untouched 4 (own_removal s league field)
      (λ xs p. let c = removed-changes s league field xs p in
      same-part (own_remove_buffer s league field) c.was xs c.shared (after-own-remove s league field xs p) (c.others other ne))
