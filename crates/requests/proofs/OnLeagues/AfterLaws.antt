-- A league's change is one of #101's, at a longer key; a change that is not refused leaves a table that the two leagues share, and what
-- the other league has there is what it had. Assumes nothing.
use mathlib.Core.Path.{◌≡◌, refl, sym, ap, ◌∙◌}
use mathlib.Core.Bool.{Bool, true, false, ◌&&◌, ◌||◌}
use mathlib.Core.List.{List, [], ◌∷◌}
use Prim.Native.Nat.{ℕ, ◌+◌, ◌≤◌}
use native.Mathlib.Omega.{arith}
use borrow.Author.Tests.{ltb-true, eq-eqb, eqb-true, eqb-false}
use lib.Dec.{ltb, eqb}
use lib.ListN.{length}
use Rattle.rules.specs.Refusals.{Gives, ◌then◌}
use Rattle.rules.specs.Book.{head_size, new_buffer}
use Rattle.rules.proofs.OnKinds.KindLaws.{left, low, high}
use Rattle.rules.proofs.OnBook.FrameLaws.{demand-met, then-met}
use Rattle.requests.specs.Entries.{some, keep, standing, declare, remove}
use Rattle.requests.specs.FieldTable.{bad_entry, table_full, not_there, key_in, entries, entry_for, declaring, entry_bytes, has_room, declare_in, remove_in, declared, removed, declare_buffer, remove_buffer}
use Rattle.requests.specs.Leagues.{table2, is_league, is_field, key_for, own_key, own, all_owned, share_most, shared_entries, called, declare_own, own_declaration, own_declare_buffer, own_removal, own_remove_buffer}
use Rattle.requests.proofs.OnEntries.KeepLaws.{either}
use Rattle.requests.proofs.OnEntries.ChangeLaws.{declare-count, remove-count, declare-other, remove-other}
use Rattle.requests.proofs.OnEntries.PartLaws.{own-declare-count, own-remove-count}
use Rattle.requests.proofs.OnFieldTable.EntryLaws.{declaring-tells, key_back}
use Rattle.requests.proofs.OnFieldTable.AfterLaws.{after-new, after-declare, after-remove}
use Rattle.requests.proofs.OnLeagues.OwnLaws.{call-own, own-is-key, not-other, of-both, owned-counts}
use Rattle.requests.proofs.OnLeagues.SharedLaws.{sensible2, Shared, shared-tells, holds, of-all}

-- ---- what a change that is not refused tells

pub record Changed (s : List ℕ) (league field : ℕ) (xs : List (List ℕ)) : Type 0 where
  pub was : List (List ℕ)
  pub shared : Shared s was
  pub call : (is_league league && is_field field) ≡ true
  -- the league's own are as many more or fewer as all are, and at most a share
  pub even : length (own league xs) + length was ≡ length (own league was) + length xs
  pub share : length (own league xs) ≤ share_most
  -- the other's are what they were
  pub others : (other : ℕ) → (league ≡ other → ⊥) → own other xs ≡ own other was

pub some_first : (xs : List (List ℕ)) → some xs ≡ true → 1 ≤ length xs
some_first [] h = let z : ◌≡◌ {A = ℕ} 0 1 = cc (ap (λ (b : Bool). b) h) in absurd (omega arith)
some_first (x ∷ xs) h = omega arith

-- at most a share: the field stood there, or the share was not full
at_most : (t : Bool) (held mine : ℕ) → (t || ltb held share_most) ≡ true → (t ≡ true → mine ≤ held) → mine ≤ held + 1 → held ≤ share_most → mine ≤ share_most
at_most true held mine h f g l = let m = f refl in omega arith
at_most false held mine h f g l = let m = ltb-true held share_most h in omega arith

-- a league's share, whichever it is
pub of-league : (rs : List (List ℕ)) (league : ℕ) → is_league league ≡ true → length (own 1 rs) ≤ share_most → length (own 2 rs) ≤ share_most → length (own league rs) ≤ share_most
of-league rs league g p q =
    let a = low 1 2 league g in let b = high 1 2 league g in
    either (eqb league 1)
    (λ e. let z = eqb-true league 1 e in rw z p)
    (λ e. let y = eqb-false league 1 e in let z : league ≡ 2 = omega arith in rw z q)

module _ (s : List ℕ) (league field : ℕ) where
  abbrev key : List ℕ → ℕ
  key = key_in 3

  abbrev q : ℕ
  q = key_for league field

  -- the entry of a call has the call's key
  pub entry_key : (code : ℕ) (r : List ℕ) → entry_for 3 q code ≡ Gives r → key r ≡ q
  unfolding entry_for
  entry_key code r e =
      let f = then-met (declaring 3 q code) _ r e in
      let t = declaring-tells 3 q code f.value f.is in
      let z : entry_bytes 3 f.value ≡ r = cc f.next in
      rw (← z) (key_back 3 f.value (rw t.same t.is-key) ∙ t.same)

  module _ (code : ℕ) (xs : List (List ℕ)) (e : own_declaration s league field code ≡ Gives xs) where
    -- it is a declaration of #101
    pub record Declared : Type 0 where
      pub rs : List (List ℕ)
      pub has : Shared s rs
      pub called-so : (is_league league && is_field field) ≡ true
      pub entry : List ℕ
      pub is-entry : entry_for 3 q code ≡ Gives entry
      pub may : (some (standing key (key entry) rs) || ltb (length (own league rs)) share_most) ≡ true
      pub next : declare_in table2 s rs entry ≡ Gives xs
      pub now : declare key entry rs ≡ xs

    pub declared-so : Declared
    unfolding own_declaration declare_own declare_in
    declared-so =
        let g = then-met (shared_entries s) _ xs e in
        let f = then-met (called league field (entry_for 3 q code)) (declare_own s league g.value) xs g.next in
        let c = demand-met (is_league league && is_field field) bad_entry (entry_for 3 q code) f.value f.is in
        let d = demand-met (some (standing key (key f.value) g.value) || ltb (length (own league g.value)) share_most) table_full (declare_in table2 s g.value f.value) xs f.next in
        let n = demand-met (some (standing key (key f.value) g.value) || has_room table2 g.value s) table_full (Gives (declare key f.value g.value)) xs d.1 in
        record {
          rs = g.value;
          has = shared-tells s g.value g.is;
          called-so = c.0;
          entry = f.value;
          is-entry = c.1;
          may = d.0;
          next = d.1;
          now = cc n.1;
        }

    pub as-declared : declared table2 s q code ≡ Gives xs
    unfolding declared
    as-declared = let d = declared-so in rw (d.has.found, d.is-entry) d.next

    pub declared-changes : Changed s league field xs
    declared-changes =
        let d = declared-so in
        let k = entry_key code d.entry d.is-entry in
        let is = left (is_league league) (is_field field) d.called-so in
        let mine : own_key league (key d.entry) ≡ true = rw k (call-own league field d.called-so) in
        let o = (holds s d.rs d.has).order in
        let ev : length (own league xs) + length d.rs ≡ length (own league d.rs) + length xs = rw d.now at (own-declare-count key (own_key league) d.rs o d.entry mine) in
        let n : length xs + length (standing key (key d.entry) d.rs) ≡ length d.rs + 1 = rw d.now at (declare-count key 0 d.rs o d.entry) in
        let l = of-league d.rs league is d.has.first d.has.second in
        record {
          was = d.rs;
          shared = d.has;
          call = d.called-so;
          even = ev;
          share =
              at_most (some (standing key (key d.entry) d.rs)) (length (own league d.rs)) (length (own league xs)) d.may
              (λ h. let one = some_first (standing key (key d.entry) d.rs) h in omega arith) (omega arith) l;
          others = λ other ne. ap (own other) (sym d.now) ∙ declare-other key (own_key other) 0 d.entry d.rs (not-other league other (key d.entry) ne mine) o;
        }

  module _ (xs : List (List ℕ)) (e : own_removal s league field ≡ Gives xs) where
    pub record Removed : Type 0 where
      pub rs : List (List ℕ)
      pub has : Shared s rs
      pub called-so : (is_league league && is_field field) ≡ true
      pub stood : some (standing key q rs) ≡ true
      pub next : remove_in 3 q rs ≡ Gives xs
      pub now : remove key q rs ≡ xs

    pub removed-so : Removed
    unfolding own_removal remove_in
    removed-so =
        let g = then-met (shared_entries s) _ xs e in
        let c = demand-met (is_league league && is_field field) bad_entry (remove_in 3 q g.value) xs g.next in
        let d = demand-met (some (standing key q g.value)) not_there (Gives (remove key q g.value)) xs c.1 in
        record { rs = g.value; has = shared-tells s g.value g.is; called-so = c.0; stood = d.0; next = c.1; now = cc d.1 }

    pub as-removed : removed table2 s q ≡ Gives xs
    unfolding removed
    as-removed =
        let d = removed-so in
        rw (d.has.found, own-is-key league q (left (is_league league) (is_field field) d.called-so) (call-own league field d.called-so)) d.next

    pub removed-changes : Changed s league field xs
    removed-changes =
        let d = removed-so in
        let is = left (is_league league) (is_field field) d.called-so in
        let mine = call-own league field d.called-so in
        let o = (holds s d.rs d.has).order in
        let ev : length (own league xs) + length d.rs ≡ length (own league d.rs) + length xs = rw d.now at (own-remove-count key (own_key league) d.rs o q mine) in
        let n : length xs + length (standing key q d.rs) ≡ length d.rs = rw d.now at (remove-count key 0 d.rs o q) in
        let l = of-league d.rs league is d.has.first d.has.second in
        record {
          was = d.rs;
          shared = d.has;
          call = d.called-so;
          even = ev;
          share = omega arith;
          others = λ other ne. ap (own other) (sym d.now) ∙ remove-other key (own_key other) q d.rs (not-other league other q ne mine);
        }

-- ---- and leaves a table that the two share

module _ (s : List ℕ) (league field : ℕ) (xs : List (List ℕ)) (c : Changed s league field xs) where
  -- the two leagues have all entries then
  pub all-shared : (t : List ℕ) → entries table2 t ≡ Gives xs → Shared t xs
  all-shared t f =
      let is = left (is_league league) (is_field field) c.call in
      let a = low 1 2 league is in let b = high 1 2 league is in
      let h = c.shared in
      let n = of-all s c.was h in
      let ev = c.even in let sh = c.share in
      either (eqb league 1)
      (λ e. let z = eqb-true league 1 e in
      let o = ap length (c.others 2 (λ y. omega arith)) in
      let ev1 : length (own 1 xs) + length c.was ≡ length (own 1 c.was) + length xs = rw z at ev in
      let sh1 : length (own 1 xs) ≤ share_most = rw z at sh in
      let m = h.second in
      record { found = f; owned = owned-counts xs ∙ eq-eqb (of-both xs) (length xs) (omega arith); first = sh1; second = omega arith })
      (λ e. let y = eqb-false league 1 e in let z : league ≡ 2 = omega arith in
      let o = ap length (c.others 1 (λ w. omega arith)) in
      let ev2 : length (own 2 xs) + length c.was ≡ length (own 2 c.was) + length xs = rw z at ev in
      let sh2 : length (own 2 xs) ≤ share_most = rw z at sh in
      let m = h.first in
      record { found = f; owned = owned-counts xs ∙ eq-eqb (of-both xs) (length xs) (omega arith); first = omega arith; second = sh2 })

-- an empty table is one that they share
pub after-new-shared : (s : List ℕ) → head_size ≤ length s → Shared (new_buffer table2.version s) []
unfolding keep all_owned
after-new-shared s h = record { found = after-new table2 sensible2 s h; owned = refl; first = omega arith; second = omega arith }

-- "every operation that is not refused leaves a table that checks": the entries that it made
module _ (s : List ℕ) (league field : ℕ) (xs : List (List ℕ)) where
  pub after-own-declare : (code : ℕ) → own_declaration s league field code ≡ Gives xs → Shared (own_declare_buffer s league field code) xs
  after-own-declare code e =
      let d = as-declared s league field code xs e in
      let same-buffer : declare_buffer table2 s (key_for league field) code ≡ own_declare_buffer s league field code = rw (d, e) in
      all-shared s league field xs (declared-changes s league field code xs e) (own_declare_buffer s league field code)
      (ap (entries table2) (sym same-buffer) ∙ after-declare table2 sensible2 s (key_for league field) code xs d)

  pub after-own-remove : own_removal s league field ≡ Gives xs → Shared (own_remove_buffer s league field) xs
  after-own-remove e =
      let d = as-removed s league field xs e in
      let same-buffer : remove_buffer table2 s (key_for league field) ≡ own_remove_buffer s league field = rw (d, e) in
      all-shared s league field xs (removed-changes s league field xs e) (own_remove_buffer s league field)
      (ap (entries table2) (sym same-buffer) ∙ after-remove table2 sensible2 s (key_for league field) xs d)
