-- Declarations and removals of a league, by what the check and the tests of a call answered, and what the league is told of them.
-- Assumes nothing.
use mathlib.Core.Path.{◌≡◌, refl, sym, ap, ◌∙◌}
use mathlib.Core.Bool.{Bool, true, false, ◌&&◌, ◌||◌}
use mathlib.Core.List.{List}
use Prim.Native.Nat.{ℕ, ◌+◌, ◌<◌}
use native.Mathlib.Omega.{arith}
use lib.Dec.{ltb}
use lib.ListN.{length}
use Rattle.rules.specs.Refusals.{Answer, Gives, Refused, demand}
use Rattle.rules.specs.Kinds.{Kind}
use Rattle.rules.specs.Book.{version_of}
use Rattle.rules.proofs.OnKinds.KindLaws.{left}
use Rattle.requests.specs.Entries.{some, standing, declare, remove}
use Rattle.requests.specs.FieldTable.{TableFormat, bad_entry, table_full, not_there, key_in, declared_kind, entry_bytes, entry_for, has_room, counted, declare_in, remove_in, table_buffer}
use Rattle.requests.specs.Leagues.{table2, is_league, is_field, key_for, own_key, own, share_most, shared_entries, own_of, declare_own, own_declaration, own_declare_buffer, own_removal, own_remove_buffer}
use Rattle.requests.proofs.OnEntries.ChangeLaws.{declare-count, remove-count}
use Rattle.requests.proofs.OnEntries.PartLaws.{own-declare-count, own-remove-count}
use Rattle.requests.proofs.OnFieldTable.EntryLaws.{declares, no_kind, key_back}
use Rattle.requests.proofs.OnLeagues.OwnLaws.{call-own, own-is-key}
use Rattle.field_table.specs.Search.{entries_in}
use Rattle.field_table.specs.Views.{table_of}
use Rattle.field_table.proofs.Calls.{any-most}
use Rattle.league_table.specs.Told.{Countable, own_after}
use Rattle.league_table.proofs.Counts.{fewer}
use Rattle.league_table.proofs.Calls.{are, order, few, version, many}

-- ---- what a league is told of a change, by how many entries it had

module _ (league held n : ℕ) where
  -- the league's own are as many more or fewer as all are
  abbrev Even : List (List ℕ) → Type 0
  Even xs = length (own league xs) + n ≡ held + length xs

  told-so : (b : Bool) (refusal : ℕ) (xs : List (List ℕ)) → Even xs →
      own_after held n (counted (demand b refusal (Gives xs))) ≡ counted (own_of league (demand b refusal (Gives xs)))
  unfolding counted own_of
  told-so true refusal xs e = ap Gives (omega arith)
  told-so false refusal xs e = refl

  countable : (b : Bool) (refusal : ℕ) (xs : List (List ℕ)) → Even xs → held + length xs < 18446744073709551616 →
      Countable held n (counted (demand b refusal (Gives xs)))
  unfolding counted
  countable true refusal xs e h = (omega arith, h)
  countable false refusal xs e h = tt

module _ (s : List ℕ) (n : ℕ) (e : counted (shared_entries s) ≡ Gives n) (league : ℕ) where
  abbrev es : List (List ℕ)
  es = entries_in 3 n s

  -- ---- an entry of the league's is declared

  module _ (is : is_league league ≡ true) (key : ℕ) (k : Kind) (mine : own_key league key ≡ true) where
    abbrev v : List ℕ
    v = entry_bytes 3 (record { key = key; kind = k })

    its-key : key_in 3 v ≡ key
    its-key = key_back 3 (record { key = key; kind = k }) (own-is-key league key is mine)

    abbrev said : TableFormat
    said = table_of 3 2048 (version_of s)

    abbrev fits : Bool
    fits = some (standing (key_in 3) (key_in 3 v) es) || has_room table2 es s

    even : {held : ℕ} → held ≡ length (own league es) → Even league held n (declare (key_in 3) v es)
    even p = omega (arith, own-declare-count (key_in 3) (own_key league) es (order s n e) v (rw its-key mine), many s n e, p)

    pub own-countable : {held : ℕ} {x : Answer ℕ} → held ≡ length (own league es) → x ≡ counted (declare_in said s es v) → Countable held n x
    unfolding declare_in
    own-countable {held} p q =
        rw q
        (countable league held n fits table_full (declare (key_in 3) v es) (even p)
        (omega (arith, declare-count (key_in 3) 0 es (order s n e) v, many s n e, few s n e, fewer n s league, p)))

    -- the answer is x, and t the buffer then
    abbrev pub Puts : Answer ℕ → List ℕ → Type 0
    Puts x t = (x ≡ counted (own_of league (declare_own s league es v))) × (t ≡ table_buffer table2 0 (declare_own s league es v) s)

    module _ {held : ℕ} (p : held ≡ length (own league es)) where
      pub put-so : true ≡ (some (standing (key_in 3) key es) || ltb held share_most) → {x : Answer ℕ} {t : List ℕ} →
          x ≡ own_after held n (counted (declare_in said s es v)) → t ≡ table_buffer said 0 (declare_in said s es v) s → Puts x t
      unfolding declare_own declare_in
      put-so m q r =
          let may : (some (standing (key_in 3) (key_in 3 v) es) || ltb (length (own league es)) share_most) ≡ true = rw (its-key, ← p) (sym m) in
          rw may (q ∙ told-so league held n fits table_full (declare (key_in 3) v es) (even p), rw (version s n e) at r)

      pub put-not : false ≡ (some (standing (key_in 3) key es) || ltb held share_most) → Puts (Refused table_full) s
      unfolding declare_own own_of counted table_buffer
      put-not m = rw (its-key, ← p, ← m) (refl, refl)

  -- ---- a call to declare

  module _ (field code : ℕ) where
    abbrev pub Declares : Answer ℕ → List ℕ → Type 0
    Declares x t = (x ≡ counted (own_of league (own_declaration s league field code))) × (t ≡ own_declare_buffer s league field code)

    pub declare-no-field : (is_league league && is_field field) ≡ false → Declares (Refused bad_entry) s
    unfolding own_declaration own_of counted table_buffer
    declare-no-field h = rw (are s n e, h) (refl, refl)

    module _ (h : (is_league league && is_field field) ≡ true) where
      pub declare-no-kind : Refused bad_entry ≡ declared_kind code → Declares (Refused bad_entry) s
      unfolding own_declaration entry_for own_of counted table_buffer
      declare-no-kind g = rw (are s n e, h, no_kind 3 (key_for league field) code (sym g)) (refl, refl)

      pub declare-so : {k : Kind} → Gives k ≡ declared_kind code → {x : Answer ℕ} {t : List ℕ} →
          x ≡ counted (own_of league (declare_own s league es (entry_bytes 3 (record { key = key_for league field; kind = k })))) →
          t ≡ table_buffer table2 0 (declare_own s league es (entry_bytes 3 (record { key = key_for league field; kind = k }))) s → Declares x t
      unfolding own_declaration entry_for
      declare-so {k} g p q =
          let is = left (is_league league) (is_field field) h in
          let d = declares 3 (key_for league field) code k (own-is-key league (key_for league field) is (call-own league field h)) (sym g) in
          rw (are s n e, h, d) (p, q)

  -- ---- a call to remove

  module _ (key : ℕ) (mine : own_key league key ≡ true) {held : ℕ} (p : held ≡ length (own league es)) where
    abbrev there : Bool
    there = some (standing (key_in 3) key es)

    less : Even league held n (remove (key_in 3) key es)
    less = omega (arith, own-remove-count (key_in 3) (own_key league) es (order s n e) key mine, many s n e, p)

    pub less-countable : {x : Answer ℕ} → x ≡ counted (remove_in 3 key es) → Countable held n x
    unfolding remove_in
    less-countable q =
        rw q (countable league held n there not_there (remove (key_in 3) key es) less
        (omega (arith, remove-count (key_in 3) 0 es (order s n e) key, many s n e, few s n e, fewer n s league, p)))

    pub take-so : {x : Answer ℕ} {t : List ℕ} → x ≡ own_after held n (counted (remove_in 3 key es)) →
        t ≡ table_buffer (table_of 3 n (version_of s)) 4 (remove_in 3 key es) s →
        (x ≡ counted (own_of league (remove_in 3 key es))) × (t ≡ table_buffer table2 4 (remove_in 3 key es) s)
    unfolding remove_in
    take-so q r = (
      q ∙ told-so league held n there not_there (remove (key_in 3) key es) less,
      (rw (version s n e) at r) ∙ any-most 3 n 2048 2 4 (demand there not_there (Gives (remove (key_in 3) key es))) s,
    )

  module _ (field : ℕ) where
    abbrev pub Removes : Answer ℕ → List ℕ → Type 0
    Removes x t = (x ≡ counted (own_of league (own_removal s league field))) × (t ≡ own_remove_buffer s league field)

    pub remove-no-field : (is_league league && is_field field) ≡ false → Removes (Refused bad_entry) s
    unfolding own_removal own_of counted table_buffer
    remove-no-field h = rw (are s n e, h) (refl, refl)

    pub remove-so : (is_league league && is_field field) ≡ true → {x : Answer ℕ} {t : List ℕ} →
        x ≡ counted (own_of league (remove_in 3 (key_for league field) es)) → t ≡ table_buffer table2 4 (remove_in 3 (key_for league field) es) s → Removes x t
    unfolding own_removal
    remove-so h p q = rw (are s n e, h) (p, q)
