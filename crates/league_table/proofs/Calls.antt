-- The calls of a league, by what the check and the tests of a call answered. Assumes nothing.
use mathlib.Core.Path.{◌≡◌, refl, sym, ◌∙◌}
use mathlib.Core.Bool.{true, false, ◌&&◌}
use mathlib.Core.List.{List}
use Prim.Native.Nat.{ℕ, ◌+◌, ◌*◌, ◌≤◌, ◌<◌}
use native.Mathlib.Omega.{arith}
use lib.IntN.{ℤ}
use lib.ListN.{length, take, drop}
use lib.Seq.{drop-drop}
use Rattle.rules.specs.Refusals.{Gives, Refused, ◌then◌, given, no_record}
use Rattle.rules.specs.Kinds.{Kind}
use Rattle.rules.specs.Book.{head_size, version_of, pick}
use Rattle.rules.proofs.OnBook.PieceLaws.{piece-count, pick-past, pick-piece}
use Rattle.refusals.specs.declared.Refusal.{Refusal}
use Rattle.refusals.specs.Answers.{refusal_as}
use Rattle.refusals.proofs.RefusalLaws.{refused, refusal-then}
use Rattle.frame.proofs.Refusing.{refused-before}
use Rattle.requests.specs.Entries.{ascends, place, standing}
use Rattle.requests.specs.FieldTable.{bad_entry, key_in, game_kind, declared_by, in_order, entries, counted, check, table_buffer, look_by}
use Rattle.requests.specs.Leagues.{table2, is_league, is_field, key_for, own, shared_entries, own_of, own_entries, own_declared, own_entry_at, own_declaration, own_declare_buffer, own_removal, own_remove_buffer, own_lookup}
use Rattle.requests.proofs.OnEntries.OrderLaws.{place-within}
use Rattle.requests.proofs.OnEntries.PartLaws.{part-pick}
use Rattle.requests.proofs.OnFieldTable.EntryLaws.{all_here}
use Rattle.requests.proofs.OnFieldTable.HeldLaws.{Holds, check-fits, check-most}
use Rattle.requests.proofs.OnLeagues.SharedLaws.{sensible2, holds, count-checks, count_entries, count-shared, count-refused}
use Rattle.field_table.specs.Search.{Room, entries_in}
use Rattle.field_table.specs.Views.{in_bits}
use Rattle.field_table.proofs.Calls.{unchanged}
use Rattle.league_table.proofs.Counts.{places}

-- ---- the check refused

module _ (s : List ℕ) {n : ℕ} (e : Refused n ≡ counted (shared_entries s)) where
  refusing : shared_entries s ≡ Refused n
  refusing = count-refused s n (sym e)

  pub entry-not : (league place : ℕ) → Refused n ≡ own_entry_at s league place
  unfolding own_entries own_entry_at
  entry-not league place = rw refusing

  pub declare-not : (league field code : ℕ) →
      (Refused n ≡ counted (own_of league (own_declaration s league field code))) × (s ≡ own_declare_buffer s league field code)
  unfolding own_declaration own_of counted table_buffer
  declare-not league field code = rw refusing (refl, refl)

  pub remove-not : (league field : ℕ) → (Refused n ≡ counted (own_of league (own_removal s league field))) × (s ≡ own_remove_buffer s league field)
  unfolding own_removal own_of counted table_buffer
  remove-not league field = rw refusing (refl, refl)

-- ---- the same, by the refusal that the code has

module _ (s : List ℕ) (e : Refusal) (h : refusal_as e ≡ counted (shared_entries s)) where
  shared-refusing : shared_entries s ≡ refusal_as e
  unfolding counted
  shared-refusing = refused-before e (shared_entries s) length (sym h)

  pub check-refusing : (league : ℕ) → refusal_as e ≡ counted (own_entries s league)
  unfolding own_entries counted
  check-refusing league = rw (shared-refusing, refusal-then e, refusal-then e)

  pub entry-refusing : (league place : ℕ) → refusal_as e ≡ own_entry_at s league place
  unfolding own_entries own_entry_at
  entry-refusing league place = rw (shared-refusing, refusal-then e, refusal-then e)

  pub look-refusing : (league field game : ℕ) (z : ℤ) → refusal_as e ≡ in_bits (own_lookup s league field game z)
  unfolding own_lookup
  look-refusing league field game z = rw (shared-refusing, refusal-then e, refusal-then e)

  pub declare-refusing : (league field code : ℕ) →
      (refusal_as e ≡ counted (own_of league (own_declaration s league field code))) × (s ≡ own_declare_buffer s league field code)
  unfolding own_declaration own_of counted
  declare-refusing league field code =
      rw (shared-refusing, refusal-then e, refusal-then e) (sym (refusal-then e _), unchanged table2 0 s (refusal_as e) (refused _ e))

  pub remove-refusing : (league field : ℕ) → (refusal_as e ≡ counted (own_of league (own_removal s league field))) × (s ≡ own_remove_buffer s league field)
  unfolding own_removal own_of counted
  remove-refusing league field =
      rw (shared-refusing, refusal-then e, refusal-then e) (sym (refusal-then e _), unchanged table2 4 s (refusal_as e) (refused _ e))

-- what refuses the table refuses the two leagues
pub shares-refusing : (s : List ℕ) (e : Refusal) → refusal_as e ≡ check table2 s → refusal_as e ≡ counted (shared_entries s)
unfolding shared_entries counted
shares-refusing s e h = rw (refused-before e (entries table2 s) length (sym h), refusal-then e, refusal-then e)

-- ---- it counted n

module _ (s : List ℕ) (n : ℕ) (e : counted (shared_entries s) ≡ Gives n) where
  abbrev es : List (List ℕ)
  es = entries_in 3 n s

  pub are : shared_entries s ≡ Gives es
  are = count_entries s n e

  held-so : Holds table2 s es
  held-so = holds s es (count-shared s n e)

  pub room : Room 3 n (length s)
  room = record { fits = check-fits table2 sensible2 s n (count-checks s n e); narrow = omega arith }

  pub order : ascends (key_in 3) 0 es ≡ true
  order = held-so.order

  pub ordered : in_order 3 es ≡ true
  ordered = rw (held-so.declare, held-so.order)

  pub few : n ≤ 2048
  few = check-most table2 sensible2 s n (count-checks s n e)

  pub version : version_of s ≡ 2
  version = held-so.framed.version

  pub many : length es ≡ n
  many = piece-count n 4 (drop head_size s)

  -- ---- its own

  module _ (league : ℕ) where
    pub no-league : is_league league ≡ false → Refused bad_entry ≡ counted (own_entries s league)
    unfolding own_entries counted
    no-league h = rw (are, h)

    pub counts-own : {m : ℕ} → is_league league ≡ true → m ≡ length (own league es) → Gives m ≡ counted (own_entries s league)
    unfolding own_entries counted
    counts-own h p = rw (are, h, p)

    module _ (place' : ℕ) where
      pub entry-no-league : is_league league ≡ false → Refused bad_entry ≡ own_entry_at s league place'
      unfolding own_entry_at own_entries
      entry-no-league h = rw (are, h)

      pub entry_past : is_league league ≡ true → length (own league es) ≤ place' → Refused no_record ≡ own_entry_at s league place'
      unfolding own_entry_at own_entries
      entry_past h l = rw (are, h, pick-past (own league es) place' l)

      -- the entry stands so far after the league's first
      module _ (h : is_league league ≡ true) (l : place' < length (own league es)) where
        abbrev at : ℕ
        at = place (key_in 3) (key_for league 1) es + place'

        abbrev piece : List ℕ
        piece = take 4 (drop (head_size + at * 4) s)

        pub inside : at < n
        inside = omega (arith, places league es, many, place-within (key_in 3) (key_for league 65535 + 1) es)

        picked : pick es at ≡ Gives piece
        picked = pick-piece n 4 (drop head_size s) at inside ∙ rw (drop-drop (at * 4) head_size s)

        pub it-declares : given (declared_by 3 piece) ≡ true
        it-declares = all_here 3 es held-so.declare at piece picked

        pub entry-is : (declared_by 3 piece then λ d. Gives (own_declared d)) ≡ own_entry_at s league place'
        unfolding own_entry_at own_entries
        entry-is = rw (are, h, part-pick (key_in 3) (key_for league 1) (key_for league 65535) 0 es order place' l, picked)

    -- ---- looking up

    module _ (field game : ℕ) (z : ℤ) where
      pub look-no-field : (is_league league && is_field field) ≡ false → own_lookup s league field game z ≡ Refused bad_entry
      unfolding own_lookup
      look-no-field h = rw (are, h)

      module _ (h : (is_league league && is_field field) ≡ true) where
        pub look-no-game : Refused bad_entry ≡ game_kind game → own_lookup s league field game z ≡ Refused bad_entry
        unfolding own_lookup
        look-no-game g = rw (are, h, ← g)

        pub by-entry : {k : Kind} → Gives k ≡ game_kind game → own_lookup s league field game z ≡ look_by 3 (standing (key_in 3) (key_for league field) es) k z
        unfolding own_lookup
        by-entry g = rw (are, h, ← g)
