-- A version 1 table that was moved: a table of league 1 alone, and "its lookups are those of the version 1 table". Assumes nothing.
use mathlib.Core.Path.{◌≡◌, refl, sym, ap, ◌∙◌}
use mathlib.Core.Bool.{Bool, true, false, ◌&&◌}
use mathlib.Core.List.{List, [], ◌∷◌, map}
use Prim.Native.Nat.{ℕ, ◌+◌, ◌*◌, ◌≤◌}
use native.Mathlib.Omega.{arith}
use borrow.Author.Tests.{leb-true, eq-eqb, ne_eqb, eqb-true, eqb-false}
use lib.Dec.{leb, eqb, lit<}
use lib.IntN.{ℤ}
use lib.ListN.{length, length-map}
use Rattle.rules.specs.Words.{big_endian}
use Rattle.rules.specs.Refusals.{Answer, Gives, Refused, RefusedAt, ◌then◌, given}
use Rattle.rules.specs.Kinds.{Kind}
use Rattle.rules.specs.Book.{head_size}
use Rattle.rules.proofs.OnKinds.KindLaws.{left, right, low, high, yes-within}
use Rattle.rules.proofs.OnBook.FrameLaws.{Sensible, demand-met, then-met}
use Rattle.requests.specs.Entries.{same, ascends, keep, standing}
use Rattle.requests.specs.FieldTable.{table_frame, table1, table_full, key_in, code_in, game_kind, declared_by, all_declare, entries, table_buffer, decode, guess, look_by, game_for, lookup}
use Rattle.requests.specs.Leagues.{table2, is_field, key_for, own_key, own, all_owned, share_most, called, own_lookup, of_first, moved_entries, moved_buffer}
use Rattle.requests.proofs.OnEntries.EachLaws.{Each, each-kept}
use Rattle.requests.proofs.OnEntries.KeepLaws.{either, keep-none}
use Rattle.requests.proofs.OnEntries.OrderLaws.{first_rest, and_then, lower}
use Rattle.requests.proofs.OnLaid.LaidLaws.{Long}
use Rattle.requests.proofs.OnMoves.PassLaws.{each-changed}
use Rattle.requests.proofs.OnFieldTable.EntryLaws.{declares-by, some-declared, by-its-code}
use Rattle.requests.proofs.OnFieldTable.HeldLaws.{Holds, sensible-table, found-holds}
use Rattle.requests.proofs.OnFieldTable.AfterLaws.{each_long, laid-entries}
use Rattle.requests.proofs.OnLeagues.OwnLaws.{own-is-key, not-other}
use Rattle.requests.proofs.OnLeagues.SharedLaws.{sensible2, Shared, tells-shared}
use Rattle.requests.proofs.OnLeagues.ApartLaws.{own-lookup}

-- ---- one entry: its key is that of its field in league 1, and it declares what it did

moved-key : (r : List ℕ) → Long 3 r → key_in 3 (of_first r) ≡ key_for 1 (key_in 2 r)
unfolding key_in big_endian
moved-key [] l = absurd (omega arith)
moved-key (a ∷ []) l = absurd (omega arith)
moved-key (a ∷ b ∷ []) l = absurd (omega arith)
moved-key (a ∷ b ∷ c ∷ []) l = omega arith
moved-key (a ∷ b ∷ c ∷ d ∷ r) l = absurd (omega arith)

same_code : (r : List ℕ) → code_in 3 (of_first r) ≡ code_in 2 r
unfolding code_in
same_code r = refl

-- an entry of a table: three bytes that declare a field
abbrev Entry : List ℕ → Type 0
Entry r = Long 3 r × (given (declared_by 2 r) ≡ true)

module _ (r : List ℕ) (e : Entry r) where
  is_field_lem : is_field (key_in 2 r) ≡ true
  is_field_lem = some-declared 2 r e.1

  moved-own : own_key 1 (key_in 3 (of_first r)) ≡ true
  moved-own =
      let k = moved-key r e.0 in
      let a = low 1 65535 (key_in 2 r) is_field_lem in
      let b = high 1 65535 (key_in 2 r) is_field_lem in
      yes-within (key_for 1 1) (key_for 1 65535) (key_in 3 (of_first r)) (omega arith) (omega arith)

  moved-declares : given (declared_by 3 (of_first r)) ≡ true
  moved-declares =
      declares-by 3 (of_first r) (own-is-key 1 (key_in 3 (of_first r)) refl moved-own) ∙ rw (same_code r) (sym (declares-by 2 r is_field_lem) ∙ e.1)

  -- a number that is looked up by it
  same-look : (k : Kind) (z : ℤ) (rest rest' : List (List ℕ)) → look_by 3 (of_first r ∷ rest) k z ≡ look_by 2 (r ∷ rest') k z
  unfolding look_by
  same-look k z rest rest' = by-its-code 3 (of_first r) (decode z) moved-declares ∙ rw (same_code r) (sym (by-its-code 2 r (decode z) e.1))

-- ---- some of them

-- entries that a change makes others of, whose keys pass a test exactly where the old ones pass another
kept-moved : {A B : Type 0} (P : A → Type 0) (key : A → ℕ) (key' : B → ℕ) (change : A → B) (p p' : ℕ → Bool) → ((r : A) → P r → p' (key' (change r)) ≡ p (key r)) →
    (rs : List A) → Each P rs → keep key' p' (map change rs) ≡ map change (keep key p rs)
unfolding keep
kept-moved P key key' change p p' h [] e = refl
kept-moved P key key' change p p' h (r ∷ rs) e =
    let more = kept-moved P key key' change p p' h rs e.1 in
    either (p (key r)) (λ t. rw (h r e.0, t, more)) (λ t. rw (h r e.0, t, more))

each-entry : (rs : List (List ℕ)) → Each (Long 3) rs → all_declare 2 rs ≡ true → Each Entry rs
unfolding all_declare
each-entry [] l a = tt
each-entry (r ∷ rs) l a = ((l.0, left (given (declared_by 2 r)) _ a), each-entry rs l.1 (right (given (declared_by 2 r)) _ a))

-- each declares, is league 1's, and they ascend
all_moved : (rs : List (List ℕ)) → Each Entry rs → all_declare 3 (map of_first rs) ≡ true
unfolding all_declare
all_moved [] e = refl
all_moved (r ∷ rs) e = rw (moved-declares r e.0) (all_moved rs e.1)

all_first : (rs : List (List ℕ)) → Each Entry rs → all_owned (map of_first rs) ≡ true
unfolding all_owned
all_first [] e = refl
all_first (r ∷ rs) e = rw (moved-own r e.0) (all_first rs e.1)

moved-ascends : (low : ℕ) (rs : List (List ℕ)) → Each Entry rs → ascends (key_in 2) low rs ≡ true → ascends (key_in 3) (key_for 1 low) (map of_first rs) ≡ true
unfolding ascends
moved-ascends low [] e a = refl
moved-ascends low (r ∷ rs) e a =
    let f = first_rest (key_in 2) low r rs a in
    let k = moved-key r e.0.0 in
    and_then (key_in 3) (key_for 1 low) (of_first r) (map of_first rs) (omega arith) (rw k (moved-ascends (key_in 2 r) rs e.1 f.1))

-- and looked up by the first of them
looks-same : (k : Kind) (z : ℤ) (ys : List (List ℕ)) → Each Entry ys → look_by 3 (map of_first ys) k z ≡ look_by 2 ys k z
unfolding look_by
looks-same k z [] e = refl
looks-same k z (r ∷ ys) e = same-look r e.0 k z (map of_first ys) ys

keep_all : {A : Type 0} (key : A → ℕ) (rs : List A) → keep key (λ x. true) rs ≡ rs
unfolding keep
keep_all key [] = refl
keep_all key (r ∷ rs) = ap (λ l. r ∷ l) (keep_all key rs)

then_same : {A B : Type 0} {f g : A → Answer B} (x : Answer A) → ((a : A) → f a ≡ g a) → (x then f) ≡ (x then g)
then_same (Gives a) h = h a
then_same (Refused n) h = refl
then_same (RefusedAt n place) h = refl

-- ---- the table that was moved

pub record Moved (s t : List ℕ) (xs : List (List ℕ)) : Type 0 where
  pub was : List (List ℕ)
  pub found : entries table1 s ≡ Gives was
  pub few : length was ≤ share_most
  pub room : head_size + length was * 4 ≤ length t
  pub now : map of_first was ≡ xs

sensible1 : Sensible (table_frame table1)
sensible1 = sensible-table table1 (lit< tt)

module _ (s t : List ℕ) (xs : List (List ℕ)) (e : moved_entries s t ≡ Gives xs) where
  pub moved-tells : Moved s t xs
  unfolding moved_entries
  moved-tells =
      let f = then-met (entries table1 s) _ xs e in
      let n = length f.value in
      let d = demand-met (leb n share_most && leb (head_size + n * 4) (length t)) table_full _ xs f.next in
      record {
        was = f.value;
        found = f.is;
        few = leb-true n share_most (left (leb n share_most) _ d.0);
        room = leb-true (head_size + n * 4) (length t) (right (leb n share_most) _ d.0);
        now = cc d.1;
      }

  abbrev rs : List (List ℕ)
  rs = moved-tells.was

  held : Holds table1 s rs
  held = found-holds table1 sensible1 s rs moved-tells.found

  each : Each Entry rs
  each = each-entry rs (each_long table1 sensible1 s rs held) held.declare

  -- all are league 1's, none is league 2's
  pub first-has-all : own 1 xs ≡ xs
  first-has-all =
      ap (own 1) (sym moved-tells.now) ∙ kept-moved Entry (key_in 2) (key_in 3) of_first (λ x. true) (own_key 1) (λ r i. moved-own r i) rs each
      ∙ ap (map of_first) (keep_all (key_in 2) rs) ∙ moved-tells.now

  pub second-has-none : own 2 xs ≡ []
  second-has-none =
      ap (own 2) (sym moved-tells.now)
      ∙ kept-moved Entry (key_in 2) (key_in 3) of_first (λ x. false) (own_key 2) (λ r i. not-other 1 2 (key_in 3 (of_first r)) (λ z. omega arith) (moved-own r i)) rs each
      ∙ ap (map of_first) (keep-none (key_in 2) (λ x. false) (λ x. refl) rs)

  pub moved-shared : Shared (moved_buffer s t) xs
  unfolding table_buffer
  moved-shared =
      let m = moved-tells in
      let n : length xs ≡ length rs = ap length (sym m.now) ∙ length-map rs of_first in
      let few = m.few in
      let long : Each (Long 4) (map of_first rs) = each-changed Entry of_first (Long 4) (λ r i. let l = i.0 in omega arith) rs each in
      let up = lower (key_in 3) 0 (key_for 1 0) (map of_first rs) (omega arith) (moved-ascends 0 rs each held.order) in
      record {
        found = rw e (laid-entries table2 sensible2 xs _ (rw m.now at long) (omega arith) (rw m.now at (all_moved rs each)) (rw m.now at up));
        owned = rw m.now at (all_first rs each);
        first = omega (arith, ap length first-has-all);
        second = omega (arith, ap length second-has-none);
      }

  -- the entry of a field
  same-standing : (field : ℕ) → standing (key_in 3) (key_for 1 field) xs ≡ map of_first (standing (key_in 2) field rs)
  same-standing field =
      ap (standing (key_in 3) (key_for 1 field)) (sym moved-tells.now)
      ∙ kept-moved Entry (key_in 2) (key_in 3) of_first (same field) (same (key_for 1 field))
      (λ r i. let k = moved-key r i.0 in
      either (eqb (key_in 2 r) field)
      (λ f. let y = eqb-true (key_in 2 r) field f in rw f (eq-eqb (key_in 3 (of_first r)) (key_for 1 field) (omega arith)))
      (λ f. let y = eqb-false (key_in 2 r) field f in rw f (ne_eqb (key_in 3 (of_first r)) (key_for 1 field) (λ w. y (omega arith)))))
      rs each

  -- "its lookups are those of the version 1 table"
  pub moved-lookup : (field game : ℕ) (z : ℤ) → own_lookup (moved_buffer s t) 1 field game z ≡ lookup table1 s field game z
  unfolding own_lookup lookup game_for
  moved-lookup field game z =
      rw (tells-shared (moved_buffer s t) xs moved-shared, moved-tells.found, same-standing field)
      (then_same (called 1 field (game_kind game)) (λ k. looks-same k z (standing (key_in 2) field rs) (each-kept Entry (key_in 2) (same field) rs each)))

  -- and league 2's are all guessed
  pub moved_other : (field game : ℕ) (z : ℤ) → own_lookup (moved_buffer s t) 2 field game z ≡ (called 2 field (game_kind game) then guess z)
  unfolding look_by keep
  moved_other field game z = own-lookup (moved_buffer s t) xs moved-shared 2 field game z ∙ rw second-has-none
