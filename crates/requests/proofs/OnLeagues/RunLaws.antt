-- Two leagues do not see each other: two tables with room for all entries and the same entries of a league answer each of its calls alike,
-- refusals too, and have the same entries of it then; and in any run of both leagues one league is answered what its own calls alone would
-- be. Assumes nothing.
use mathlib.Core.Path.{◌≡◌, refl, sym, ap, ◌∙◌}
use mathlib.Core.List.{List, [], ◌∷◌, ◌++◌}
use Prim.Native.Nat.{ℕ, ◌+◌, ◌*◌, ◌≤◌}
use native.Mathlib.Omega.{arith}
use borrow.Author.Tests.{eqb-true, eqb-false}
use lib.Dec.{eqb}
use lib.ListN.{length, drop, replicate, length-append, length-replicate, length-drop}
use Rattle.rules.specs.Refusals.{Answer, Gives, Refused, RefusedAt}
use Rattle.rules.specs.Book.{head_size}
use Rattle.requests.specs.Entries.{standing}
use Rattle.requests.specs.Laid.{laid}
use Rattle.requests.specs.FieldTable.{table_frame, key_in, counted, table_buffer}
use Rattle.requests.specs.Leagues.{table2, key_for, own, own_of, own_declaration, own_declare_buffer, own_removal, own_remove_buffer}
use Rattle.requests.specs.LeagueRuns.{Call, checks, shows, declares, removes, looks_up, counts, shown, looked, reply, after, Turn, after_all, replies, own_turns}
use Rattle.requests.proofs.OnEntries.KeepLaws.{either}
use Rattle.requests.proofs.OnEntries.ChangeLaws.{remove-count}
use Rattle.requests.proofs.OnLaid.LaidLaws.{laid-long}
use Rattle.requests.proofs.OnFieldTable.AfterLaws.{each_long}
use Rattle.requests.proofs.OnLeagues.SharedLaws.{sensible2, Shared, holds}
use Rattle.requests.proofs.OnLeagues.AfterLaws.{Changed, some_first, declared-changes, removed-so, removed-changes, after-own-declare, after-own-remove}
use Rattle.requests.proofs.OnLeagues.ApartLaws.{room_for_all, declared_from, removed_from, own-entries, own-entry, own-lookup, own-declaration, own-removal}

-- ---- after a call

-- the own entries then: those of the answer, or at a refusal those that were
abbrev pub left_by : Answer (List (List ℕ)) → List (List ℕ) → List (List ℕ)
left_by (Gives ys) mine = ys
left_by (Refused n) mine = mine
left_by (RefusedAt n place) mine = mine

-- a league's call that answers `told` left the buffer t where s was, a table of the entries rs
pub record Left (league : ℕ) (s t : List ℕ) (rs : List (List ℕ)) (told : Answer (List (List ℕ))) : Type 0 where
  pub now : List (List ℕ)
  pub shared : Shared t now
  pub long : length t ≡ length s
  pub mine : own league now ≡ left_by told (own league rs)
  pub others : (other : ℕ) → (league ≡ other → ⊥) → own other now ≡ own other rs

module _ (s : List ℕ) (rs : List (List ℕ)) (h : Shared s rs) (room : room_for_all ≤ length s) (league field : ℕ) where
  -- the buffer keeps its length
  kept-long : (freed : ℕ) (t : List ℕ) (xs : List (List ℕ)) → t ≡ laid (table_frame table2) xs ++ (replicate freed 0 ++ drop (head_size + length xs * 4 + freed) s) →
      Shared t xs → head_size + length xs * 4 + freed ≤ length s → length t ≡ length s
  kept-long freed t xs e g fits =
      let l : length (laid (table_frame table2) xs) ≡ head_size + length xs * 4 = laid-long (table_frame table2) xs (each_long table2 sensible2 t xs (holds t xs g)) in
      ap length e ∙ rw (length-append, length-append, length-replicate, length-drop) (omega arith)

  -- what a change that is not refused makes, is there
  leaves : (freed : ℕ) (x : Answer (List (List ℕ))) →
      ((xs : List (List ℕ)) → x ≡ Gives xs → Changed s league field xs × (Shared (table_buffer table2 freed x s) xs × (head_size + length xs * 4 + freed ≤ length s))) →
      Left league s (table_buffer table2 freed x s) rs (own_of league x)
  unfolding table_buffer own_of
  leaves freed (Gives xs) f =
      let c = (f xs refl).0 in
      let g = (f xs refl).1.0 in
      let z : c.was ≡ rs = cc (sym c.shared.found ∙ h.found) in
      record {
        now = xs;
        shared = g;
        long = kept-long freed _ xs refl g (f xs refl).1.1;
        mine = refl;
        others = λ other ne. c.others other ne ∙ ap (own other) z;
      }
  leaves freed (Refused n) f = record { now = rs; shared = h; long = refl; mine = refl; others = λ other ne. refl }
  leaves freed (RefusedAt n place) f = record { now = rs; shared = h; long = refl; mine = refl; others = λ other ne. refl }

  pub declare-leaves : (code : ℕ) → Left league s (own_declare_buffer s league field code) rs (own_of league (own_declaration s league field code))
  declare-leaves code =
      leaves 0 (own_declaration s league field code)
      (λ xs p. let g = after-own-declare s league field xs code p in
      let m = (holds (own_declare_buffer s league field code) xs g).framed.most in
      (declared-changes s league field code xs p, (g, omega arith)))

  pub remove-leaves : Left league s (own_remove_buffer s league field) rs (own_of league (own_removal s league field))
  remove-leaves =
      leaves 4 (own_removal s league field)
      (λ xs p. let g = after-own-remove s league field xs p in
      let d = removed-so s league field xs p in
      let held = holds s d.rs d.has in
      let m = held.framed.most in
      let n : length xs + length (standing (key_in 3) (key_for league field) d.rs) ≡ length d.rs = rw d.now at (remove-count (key_in 3) 0 d.rs held.order (key_for league field)) in
      let one = some_first (standing (key_in 3) (key_for league field) d.rs) d.stood in
      (removed-changes s league field xs p, (g, omega arith)))

-- ---- two tables that are alike to a league

pub record Alike (league : ℕ) (s t : List ℕ) : Type 0 where
  pub one : List (List ℕ)
  pub two : List (List ℕ)
  pub shared : Shared s one
  pub shared' : Shared t two
  pub room : room_for_all ≤ length s
  pub room' : room_for_all ≤ length t
  pub same : own league one ≡ own league two

module _ (league : ℕ) (s t : List ℕ) (a : Alike league s t) where
  pub same-declare : (field code : ℕ) → own_of league (own_declaration s league field code) ≡ own_of league (own_declaration t league field code)
  same-declare field code =
      own-declaration s a.one a.shared league a.room field code ∙ ap (λ (m : List (List ℕ)). declared_from league m field code) a.same
      ∙ sym (own-declaration t a.two a.shared' league a.room' field code)

  pub same-remove : (field : ℕ) → own_of league (own_removal s league field) ≡ own_of league (own_removal t league field)
  same-remove field =
      own-removal s a.one a.shared league field ∙ ap (λ (m : List (List ℕ)). removed_from league m field) a.same
      ∙ sym (own-removal t a.two a.shared' league field)

  -- each call is answered alike
  pub same-reply : (c : Call) → reply league c s ≡ reply league c t
  unfolding reply
  same-reply checks = ap (λ x. counts (counted x)) (own-entries s a.one a.shared league ∙ rw a.same (sym (own-entries t a.two a.shared' league)))
  same-reply (shows place) = ap shown (own-entry s a.one a.shared league place ∙ rw a.same (sym (own-entry t a.two a.shared' league place)))
  same-reply (declares field code) = ap (λ x. counts (counted x)) (same-declare field code)
  same-reply (removes field) = ap (λ x. counts (counted x)) (same-remove field)
  same-reply (looks_up field game z) =
      ap looked (own-lookup s a.one a.shared league field game z ∙ rw a.same (sym (own-lookup t a.two a.shared' league field game z)))

  -- and leaves them alike
  both_left : {u v : List ℕ} {told told' : Answer (List (List ℕ))} → Left league s u a.one told → Left league t v a.two told' → told ≡ told' → Alike league u v
  both_left l r e =
      let i = l.long in let j = r.long in let m = a.room in let n = a.room' in
      record {
        one = l.now;
        two = r.now;
        shared = l.shared;
        shared' = r.shared;
        room = omega arith;
        room' = omega arith;
        same = l.mine ∙ rw (e, a.same) (sym r.mine);
      }

  pub same_after : (c : Call) → Alike league (after league c s) (after league c t)
  unfolding after
  same_after checks = a
  same_after (shows place) = a
  same_after (declares field code) =
      both_left (declare-leaves s a.one a.shared a.room league field code) (declare-leaves t a.two a.shared' a.room' league field code) (same-declare field code)
  same_after (removes field) =
      both_left (remove-leaves s a.one a.shared a.room league field) (remove-leaves t a.two a.shared' a.room' league field) (same-remove field)
  same_after (looks_up field game z) = a

  -- so does a call of the other league on one of them
  one_left : (other : ℕ) → (other ≡ league → ⊥) → {u : List ℕ} {told : Answer (List (List ℕ))} → Left other s u a.one told → Alike league u t
  one_left other ne l =
      let i = l.long in let m = a.room in
      record { one = l.now; two = a.two; shared = l.shared; shared' = a.shared'; room = omega arith; room' = a.room'; same = l.others league ne ∙ a.same }

  pub beside-after : (other : ℕ) → (other ≡ league → ⊥) → (c : Call) → Alike league (after other c s) t
  unfolding after
  beside-after other ne checks = a
  beside-after other ne (shows place) = a
  beside-after other ne (declares field code) = one_left other ne (declare-leaves s a.one a.shared a.room other field code)
  beside-after other ne (removes field) = one_left other ne (remove-leaves s a.one a.shared a.room other field)
  beside-after other ne (looks_up field game z) = a

-- ---- any run of both leagues: what one league is answered, and its entries then, are those of its own calls alone

pub apart : (league : ℕ) (ts : List Turn) (s t : List ℕ) → Alike league s t → Alike league (after_all ts s) (after_all (own_turns league ts) t)
unfolding after_all own_turns
apart league [] s t a = a
apart league (x ∷ ts) s t a =
    either (eqb x.league league)
    (λ e. let z = eqb-true x.league league e in
    rw (e, z) (apart league ts (after league x.call s) (after league x.call t) (same_after league s t a x.call)))
    (λ e. rw e (apart league ts (after x.league x.call s) t (beside-after league s t a x.league (eqb-false x.league league e) x.call)))

pub apart-replies : (league : ℕ) (ts : List Turn) (s t : List ℕ) → Alike league s t → replies league ts s ≡ replies league (own_turns league ts) t
unfolding replies own_turns
apart-replies league [] s t a = refl
apart-replies league (x ∷ ts) s t a =
    either (eqb x.league league)
    (λ e. let z = eqb-true x.league league e in
    let more = apart-replies league ts (after league x.call s) (after league x.call t) (same_after league s t a x.call) in
    rw (e, e, z, same-reply league s t a x.call, more))
    (λ e. rw e (apart-replies league ts (after x.league x.call s) t (beside-after league s t a x.league (eqb-false x.league league e) x.call)))
