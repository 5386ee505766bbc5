-- The counts that leagues are told are small, so that 32 bits hold them: of one's own entries, also after a declaration and a removal, and
-- of those moved: each is at most a share. Assumes nothing.
use mathlib.Core.Path.{◌≡◌}
use mathlib.Core.List.{List}
use Prim.Native.Nat.{ℕ, ◌≤◌}
use native.Mathlib.Omega.{arith}
use lib.ListN.{length, length-map}
use Rattle.rules.specs.Refusals.{Answer, Gives}
use Rattle.rules.proofs.OnBook.FrameLaws.{demand-met, then-met}
use Rattle.requests.specs.FieldTable.{bad_entry, counted, table1}
use Rattle.requests.specs.Leagues.{table2, is_league, own, share_most, shared_entries, own_of, own_entries, own_entry_at, declare_own, own_declaration, own_removal, of_first, moved_entries}
use Rattle.requests.proofs.OnLeagues.SharedLaws.{shared-tells}
use Rattle.requests.proofs.OnLeagues.AfterLaws.{of-league, declared-changes, removed-changes}
use Rattle.requests.proofs.OnLeagues.MoveLaws.{moved-tells}
use Rattle.pennyquill.specs.Boundary.{number_of, place_of}
use Rattle.pennyquill.proofs.Sizes.{Plain, plain-then, plain-demand, plain-gives, small-place}
use Rattle.pennyquill.proofs.TableLaws.{counted-by, entries-plain, entry-plain, declare-plain, remove-plain, picked-plain}

-- ---- no refusal of a league has a place

shared-plain : (s : List ℕ) → Plain (shared_entries s)
unfolding shared_entries
shared-plain s = plain-then (entries-plain table2 s) (λ rs. plain-demand _ _ (plain-gives _))

own-plain : (s : List ℕ) (league : ℕ) → Plain (own_entries s league)
unfolding own_entries
own-plain s league = plain-then (shared-plain s) (λ rs. plain-demand _ _ (plain-gives _))

own-of-plain : (league : ℕ) (x : Answer (List (List ℕ))) → Plain x → Plain (own_of league x)
unfolding own_of
own-of-plain league x p = plain-then p (λ rs. plain-gives _)

declare-own-plain : (s : List ℕ) (league : ℕ) (rs : List (List ℕ)) (r : List ℕ) → Plain (declare_own s league rs r)
unfolding declare_own
declare-own-plain s league rs r = plain-demand _ _ (declare-plain table2 s rs r)

declaration-plain : (s : List ℕ) (league field code : ℕ) → Plain (own_declaration s league field code)
unfolding own_declaration
declaration-plain s league field code =
    plain-then (shared-plain s) (λ rs. plain-then (plain-demand _ _ (entry-plain 3 _ code)) (λ r. declare-own-plain s league rs r))

removal-plain : (s : List ℕ) (league field : ℕ) → Plain (own_removal s league field)
unfolding own_removal
removal-plain s league field = plain-then (shared-plain s) (λ rs. plain-demand _ _ (remove-plain 3 _ rs))

moved-plain : (s t : List ℕ) → Plain (moved_entries s t)
unfolding moved_entries
moved-plain s t = plain-then (entries-plain table1 s) (λ rs. plain-demand _ _ (plain-gives _))

-- ---- how large the counts are

module _ (s : List ℕ) where
  own-few : (league : ℕ) (rs : List (List ℕ)) → own_entries s league ≡ Gives rs → length rs ≤ 4096
  unfolding own_entries
  own-few league rs e =
      let g = then-met (shared_entries s) _ rs e in
      let d = demand-met (is_league league) bad_entry _ rs g.next in
      let z : own league g.value ≡ rs = cc d.1 in
      let h = shared-tells s g.value g.is in
      let m = of-league g.value league d.0 h.first h.second in rw (← z) (omega arith)

  pub own-checked-small : (league : ℕ) → number_of (counted (own_entries s league)) ≤ 4096
  own-checked-small league = counted-by (own_entries s league) (own-plain s league) (own-few league)

  -- ---- one's own of the entries after a change

  told-few : (league : ℕ) (x : Answer (List (List ℕ))) → ((xs : List (List ℕ)) → x ≡ Gives xs → length (own league xs) ≤ share_most) →
      (rs : List (List ℕ)) → own_of league x ≡ Gives rs → length rs ≤ 4096
  unfolding own_of
  told-few league x few rs e =
      let g = then-met x _ rs e in
      let z : own league g.value ≡ rs = cc g.next in
      let m = few g.value g.is in rw (← z) (omega arith)

  pub own-declared-small : (league field code : ℕ) → number_of (counted (own_of league (own_declaration s league field code))) ≤ 4096
  own-declared-small league field code =
      let x = own_declaration s league field code in
      counted-by (own_of league x) (own-of-plain league x (declaration-plain s league field code))
      (told-few league x (λ xs p. (declared-changes s league field code xs p).share))

  pub own-removed-small : (league field : ℕ) → number_of (counted (own_of league (own_removal s league field))) ≤ 4096
  own-removed-small league field =
      let x = own_removal s league field in
      counted-by (own_of league x) (own-of-plain league x (removal-plain s league field))
      (told-few league x (λ xs p. (removed-changes s league field xs p).share))

  -- ---- those moved

  moved-few : (t : List ℕ) (rs : List (List ℕ)) → moved_entries s t ≡ Gives rs → length rs ≤ 4096
  moved-few t rs e =
      let m = moved-tells s t rs e in
      let n = length-map m.was of_first in
      let few = m.few in rw (← m.now) (omega arith)

  pub moved-small : (t : List ℕ) → number_of (counted (moved_entries s t)) ≤ 4096
  moved-small t = counted-by (moved_entries s t) (moved-plain s t) (moved-few t)

-- what an entry of one's own declares has no place either
pub own-entry-small : (s : List ℕ) (league place : ℕ) → place_of (own_entry_at s league place) ≤ 4096
unfolding own_entry_at
own-entry-small s league place =
    small-place (own_entry_at s league place)
    (plain-then (own-plain s league) (λ rs. plain-then (picked-plain 3 rs place) (λ d. plain-gives _))).is
