-- The calls of version 1, by what the check and the tests of a call answered. Assumes nothing.
use mathlib.Core.Path.{◌≡◌, refl, sym, ap, subst, ◌∙◌}
use mathlib.Core.Bool.{Bool, true, false}
use mathlib.Core.List.{List}
use Prim.Native.Nat.{ℕ, ◌+◌, ◌*◌, ◌-◌, ◌/◌, ◌≤◌, ◌<◌}
use native.Mathlib.Omega.{arith}
use lib.Dec.{T, lit<}
use lib.IntN.{ℤ}
use lib.ListN.{length, take, drop}
use lib.Seq.{drop-drop}
use Rattle.rules.specs.Refusals.{Answer, Gives, Refused, RefusedAt, ◌then◌, given, no_record}
use Rattle.rules.specs.Kinds.{Kind, Fields, Stored, store_with}
use Rattle.rules.specs.Book.{framed, head_size, length_said, version_of, pick}
use Rattle.rules.proofs.OnBook.PieceLaws.{piece-count, pick-past, pick-piece}
use Rattle.rules.proofs.OnBook.FrameLaws.{Sensible, same-refusal}
use Rattle.refusals.specs.declared.Refusal.{Refusal}
use Rattle.refusals.specs.Answers.{refusal_as}
use Rattle.refusals.proofs.RefusalLaws.{refused, refusal-then}
use Rattle.frame.specs.Views.{pieces_counted}
use Rattle.frame.proofs.Counts.{counted_is}
use Rattle.frame.proofs.Refusing.{refused-before}
use Rattle.requests.specs.Entries.{ascends, standing}
use Rattle.requests.specs.Laid.{laid}
use Rattle.requests.specs.FieldTable.{TableFormat, table_frame, table1, bad_entry, key_in, is_key, declared_kind, game_kind, declared_by, entry_bytes, entry_for, entries, in_order, counted, check, entry_at, declare_in, remove_in, declared, removed, table_buffer, declare_buffer, remove_buffer, Looked, looked_mark, look_by, game_for, lookup}
use Rattle.requests.proofs.OnFieldTable.EntryLaws.{declares, no_key, no_kind, all_here}
use Rattle.requests.proofs.OnFieldTable.HeldLaws.{sensible-table, check-entries, check-holds, check-fits, check-most, check-says}
use Rattle.field_table.specs.Search.{Room, entries_in}
use Rattle.field_table.specs.Views.{table_of, Bits, in_bits}

sensible : Sensible (table_frame table1)
sensible = sensible-table table1 (lit< tt)

-- ---- a date that was looked up, as it is stored

abbrev pub told : Kind → Bool → Answer Stored → Answer Bits
told k g x = x then λ d. Gives (record { kind = k; date = d; guessed = g })

stored-so : (k : Kind) (g : Bool) (x : Answer Fields) → told k g (store_with (looked_mark g) x) ≡ in_bits (◌then◌ {B = Looked} x (λ f. Gives (record { kind = k; date = f; guessed = g })))
stored-so k g (Gives f) = refl
stored-so k g (Refused n) = refl
stored-so k g (RefusedAt n place) = refl

pub looked : (k : Kind) (g : Bool) (x : Answer Fields) {y : Answer Stored} → y ≡ store_with (looked_mark g) x →
    told k g y ≡ in_bits (◌then◌ {B = Looked} x (λ f. Gives (record { kind = k; date = f; guessed = g })))
looked k g x e = ap (told k g) e ∙ stored-so k g x

-- ---- the bytes that a change leaves do not depend on the most entries

pub any-most : (key_size most most' version freed : ℕ) (x : Answer (List (List ℕ))) (s : List ℕ) →
    table_buffer (table_of key_size most version) freed x s ≡ table_buffer (table_of key_size most' version) freed x s
unfolding table_buffer laid
any-most key_size most most' version freed (Gives rs) s = refl
any-most key_size most most' version freed (Refused n) s = refl
any-most key_size most most' version freed (RefusedAt n place) s = refl

-- a refusal changes no byte
pub unchanged : (table : TableFormat) (freed : ℕ) (s : List ℕ) (x : Answer (List (List ℕ))) → given x ≡ false → s ≡ table_buffer table freed x s
unfolding table_buffer
unchanged table freed s (Gives rs) g = cc
unchanged table freed s (Refused n) g = refl
unchanged table freed s (RefusedAt n place) g = refl

-- what refuses the frame refuses the table
pub frame-refusing : (table : TableFormat) (s : List ℕ) (e : Refusal) → refusal_as e ≡ pieces_counted (table_frame table) s → refusal_as e ≡ check table s
unfolding counted entries
frame-refusing table s e h = rw (refused-before e (framed (table_frame table) s) length (sym (counted_is (table_frame table) s) ∙ sym h), refusal-then e, refusal-then e)

module _ (s : List ℕ) where
  -- ---- the check refused

  pub entries-refused : {n : ℕ} → Refused n ≡ check table1 s → entries table1 s ≡ Refused n
  unfolding counted
  entries-refused {n} e = same-refusal (entries table1 s) length n (sym e)

  module _ {n : ℕ} (e : Refused n ≡ check table1 s) where
    pub entry-refused : (place : ℕ) → Refused n ≡ entry_at table1 s place
    unfolding entry_at
    entry-refused place = rw (entries-refused e)

    pub declare-not : (field code : ℕ) → (Refused n ≡ counted (declared table1 s field code)) × (s ≡ declare_buffer table1 s field code)
    unfolding declared counted table_buffer
    declare-not field code = rw (entries-refused e) (refl, refl)

    pub remove-not : (field : ℕ) → (Refused n ≡ counted (removed table1 s field)) × (s ≡ remove_buffer table1 s field)
    unfolding removed counted table_buffer
    remove-not field = rw (entries-refused e) (refl, refl)

  -- ---- the same, by the refusal that the code has

  module _ (e : Refusal) (h : refusal_as e ≡ check table1 s) where
    entries-refusing : entries table1 s ≡ refusal_as e
    unfolding counted
    entries-refusing = refused-before e (entries table1 s) length (sym h)

    pub entry-refusing : (place : ℕ) → refusal_as e ≡ entry_at table1 s place
    unfolding entry_at
    entry-refusing place = rw (entries-refusing, refusal-then e)

    pub look-refusing : (field game : ℕ) (z : ℤ) → refusal_as e ≡ in_bits (lookup table1 s field game z)
    unfolding lookup
    look-refusing field game z = rw (entries-refusing, refusal-then e, refusal-then e)

    pub declare-refusing : (field code : ℕ) → (refusal_as e ≡ counted (declared table1 s field code)) × (s ≡ declare_buffer table1 s field code)
    unfolding declared counted
    declare-refusing field code =
        rw (entries-refusing, refusal-then e) (sym (refusal-then e _), unchanged table1 0 s (refusal_as e) (refused _ e))

    pub remove-refusing : (field : ℕ) → (refusal_as e ≡ counted (removed table1 s field)) × (s ≡ remove_buffer table1 s field)
    unfolding removed counted
    remove-refusing field =
        rw (entries-refusing, refusal-then e) (sym (refusal-then e _), unchanged table1 3 s (refusal_as e) (refused _ e))

  -- ---- it counted n

  module _ {n : ℕ} (e : Gives n ≡ check table1 s) where
    pub room : Room 2 n (length s)
    room = record { fits = check-fits table1 sensible s n (sym e); narrow = omega arith }

    pub order : ascends (key_in 2) 0 (entries_in 2 n s) ≡ true
    order = (check-holds table1 sensible s n (sym e)).order

    pub ordered : in_order 2 (entries_in 2 n s) ≡ true
    ordered = let h = check-holds table1 sensible s n (sym e) in rw (h.declare, h.order)

    pub few : n ≤ 2048
    few = check-most table1 sensible s n (sym e)

    pub version : version_of s ≡ 1
    version = (check-holds table1 sensible s n (sym e)).framed.version

    pub are : entries table1 s ≡ Gives (entries_in 2 n s)
    are = check-entries table1 sensible s n (sym e)

    pub says : length_said s ≡ 1 + n * 3
    says = check-says table1 sensible s n (sym e)

    pub by_length : (length_said s - 1) / 3 ≡ n
    by_length = omega (arith, says)

    -- ---- the entry at a place

    module _ (place : ℕ) where
      abbrev piece : List ℕ
      piece = take 3 (drop (head_size + place * 3) s)

      pub entry_past : n ≤ place → entry_at table1 s place ≡ Refused no_record
      unfolding entry_at
      entry_past h = rw (are, pick-past (entries_in 2 n s) place (omega (arith, piece-count n 3 (drop head_size s))))

      module _ (h : place < n) where
        picked : pick (entries_in 2 n s) place ≡ Gives piece
        picked = pick-piece n 3 (drop head_size s) place h ∙ rw (drop-drop (place * 3) head_size s)

        pub entry-is : entry_at table1 s place ≡ declared_by 2 piece
        unfolding entry_at
        entry-is = rw (are, picked)

        pub it-declares : given (declared_by 2 piece) ≡ true
        it-declares = all_here 2 (entries_in 2 n s) (check-holds table1 sensible s n (sym e)).declare place piece picked

    -- ---- looking up

    module _ (field game : ℕ) (z : ℤ) where
      pub look-no-field : is_key 2 field ≡ false → lookup table1 s field game z ≡ Refused bad_entry
      unfolding lookup game_for
      look-no-field h = rw (are, h)

      module _ (h : is_key 2 field ≡ true) where
        pub look-no-game : Refused bad_entry ≡ game_kind game → lookup table1 s field game z ≡ Refused bad_entry
        unfolding lookup game_for
        look-no-game g = rw (are, h, ← g)

        module _ {k : Kind} (g : Gives k ≡ game_kind game) where
          pub by-entry : lookup table1 s field game z ≡ look_by 2 (standing (key_in 2) field (entries_in 2 n s)) k z
          unfolding lookup game_for
          by-entry = rw (are, h, ← g)

    -- ---- declaring and removing

    -- the answer x and the buffer t of a change
    module _ (field : ℕ) where
      abbrev pub Declares : ℕ → Answer ℕ → List ℕ → Type 0
      Declares code x t = (x ≡ counted (declared table1 s field code)) × (t ≡ declare_buffer table1 s field code)

      declare-refused : (code : ℕ) → entry_for 2 field code ≡ Refused bad_entry → Declares code (Refused bad_entry) s
      unfolding declared counted table_buffer
      declare-refused code r = rw (are, r) (refl, refl)

      pub declare-no-field : (code : ℕ) → is_key 2 field ≡ false → Declares code (Refused bad_entry) s
      unfolding entry_for
      declare-no-field code h = declare-refused code (rw (no_key 2 field code h))

      pub declare-no-kind : (code : ℕ) → Refused bad_entry ≡ declared_kind code → Declares code (Refused bad_entry) s
      unfolding entry_for
      declare-no-kind code r = declare-refused code (rw (no_kind 2 field code (sym r)))

      abbrev said : TableFormat
      said = table_of 2 2048 (version_of s)

      pub declare-so : (code : ℕ) {k : Kind} {v : List ℕ} → is_key 2 field ≡ true → Gives k ≡ declared_kind code → v ≡ entry_bytes 2 (record { key = field; kind = k }) →
          {x : Answer ℕ} {t : List ℕ} → x ≡ counted (declare_in said s (entries_in 2 n s) v) → t ≡ table_buffer said 0 (declare_in said s (entries_in 2 n s) v) s →
          Declares code x t
      unfolding declared entry_for
      declare-so code {k} {v} h g r p q =
          let d : entry_for 2 field code ≡ Gives v = rw (declares 2 field code k h (sym g)) (ap Gives (sym r)) in
          let c : declared table1 s field code ≡ declare_in table1 s (entries_in 2 n s) v = rw (are, d) in
          rw c (rw version at p, rw version at q)

      abbrev pub Removes : Answer ℕ → List ℕ → Type 0
      Removes x t = (x ≡ counted (removed table1 s field)) × (t ≡ remove_buffer table1 s field)

      pub remove-no-field : is_key 2 field ≡ false → Removes (Refused bad_entry) s
      unfolding removed counted table_buffer
      remove-no-field h = rw (are, h) (refl, refl)

      pub remove-so : is_key 2 field ≡ true → {x : Answer ℕ} {t : List ℕ} → x ≡ counted (remove_in 2 field (entries_in 2 n s)) →
          t ≡ table_buffer (table_of 2 n (version_of s)) 3 (remove_in 2 field (entries_in 2 n s)) s → Removes x t
      unfolding removed
      remove-so h p q =
          let c : removed table1 s field ≡ remove_in 2 field (entries_in 2 n s) = rw (are, h) in
          rw c (p, (rw version at q) ∙ any-most 2 n 2048 1 3 (remove_in 2 field (entries_in 2 n s)) s)

-- ---- a table that was checked

pub checked-count : (s : List ℕ) → given (check table1 s) ≡ true → check table1 s ≡ Gives ((length_said s - 1) / 3)
checked-count s g = inner (check table1 s) refl g
  where
    inner : (x : Answer ℕ) → check table1 s ≡ x → given x ≡ true → check table1 s ≡ Gives ((length_said s - 1) / 3)
    inner (Gives n) e h = e ∙ ap Gives (sym (by_length s (sym e)))
    inner (Refused n) e h = absurd (subst T (sym h) tt)
    inner (RefusedAt n place) e h = absurd (subst T (sym h) tt)

-- it has a head
pub checked-head : (s : List ℕ) → given (check table1 s) ≡ true → (5 ≤ length s) × (1 ≤ length_said s)
checked-head s g =
    let e = sym (checked-count s g) in
    (omega (arith, (room s e).fits), omega (arith, says s e))
