-- What a table that two leagues share tells: its entries in order, each a league's, a share's at most of each; and each way in which its
-- check answers. Assumes nothing.
use mathlib.Core.Path.{◌≡◌, sym, ap, ◌∙◌}
use mathlib.Core.Bool.{Bool, true, false, ◌&&◌}
use mathlib.Core.List.{List}
use Prim.Native.Nat.{ℕ, suc, ◌+◌, ◌*◌, ◌≤◌, ◌<◌}
use native.Mathlib.Omega.{arith}
use borrow.Author.Tests.{le-leb, leb-true, lt-ltb, eqb-true, eqb-false}
use lib.Dec.{leb, eqb, lit<}
use lib.ListN.{length, drop}
use Rattle.rules.specs.Refusals.{Gives, Refused, ◌then◌}
use Rattle.rules.specs.Book.{head_size, pieces}
use Rattle.rules.proofs.OnKinds.KindLaws.{left, right, low, high}
use Rattle.rules.proofs.OnBook.FrameLaws.{Sensible, demand-met, then-met, same-refusal}
use Rattle.rules.proofs.OnBook.PieceLaws.{piece-count}
use Rattle.requests.specs.FieldTable.{table_frame, bad_entry, entries, counted, check, has_room}
use Rattle.requests.specs.Leagues.{table2, is_league, own, all_owned, share_most, within_shares, shared_entries}
use Rattle.requests.proofs.OnEntries.KeepLaws.{either}
use Rattle.requests.proofs.OnFieldTable.HeldLaws.{Holds, sensible-table, found-holds, check-entries}
use Rattle.requests.proofs.OnLeagues.OwnLaws.{all-owned}

pub sensible2 : Sensible (table_frame table2)
sensible2 = sensible-table table2 (lit< tt)

abbrev pub shared : List (List ℕ) → Bool
shared rs = all_owned rs && within_shares rs

pub record Shared (s : List ℕ) (rs : List (List ℕ)) : Type 0 where
  pub found : entries table2 s ≡ Gives rs
  pub owned : all_owned rs ≡ true
  pub first : length (own 1 rs) ≤ share_most
  pub second : length (own 2 rs) ≤ share_most

module _ (s : List ℕ) (rs : List (List ℕ)) where
  pub shared-tells : shared_entries s ≡ Gives rs → Shared s rs
  unfolding shared_entries
  shared-tells e =
      let f = then-met (entries table2 s) _ rs e in
      let d = demand-met (shared f.value) bad_entry _ rs f.next in
      let z : f.value ≡ rs = cc d.1 in
      let t : shared rs ≡ true = rw z at d.0 in
      let m = right (all_owned rs) _ t in
      record {
        found = f.is ∙ ap Gives z;
        owned = left (all_owned rs) _ t;
        first = leb-true (length (own 1 rs)) share_most (left (leb (length (own 1 rs)) share_most) _ m);
        second = leb-true (length (own 2 rs)) share_most (right (leb (length (own 1 rs)) share_most) _ m);
      }

  pub tells-shared : Shared s rs → shared_entries s ≡ Gives rs
  unfolding shared_entries
  tells-shared h = rw (h.found, h.owned, le-leb (length (own 1 rs)) share_most h.first, le-leb (length (own 2 rs)) share_most h.second)

  module _ (h : Shared s rs) where
    pub holds : Holds table2 s rs
    holds = found-holds table2 sensible2 s rs h.found

    pub of-all : length rs ≡ length (own 1 rs) + length (own 2 rs)
    of-all = all-owned rs h.owned

    -- while a league's share is not full, there are fewer than 2,048 entries
    pub not-all : (league : ℕ) → is_league league ≡ true → length (own league rs) < share_most → length rs < 2048
    not-all league g l =
        let a = low 1 2 league g in let b = high 1 2 league g in
        let n = of-all in let p = h.first in let q = h.second in
        either (eqb league 1)
        (λ e. let z = eqb-true league 1 e in let m : length (own 1 rs) < share_most = rw z at l in omega arith)
        (λ e. let y = eqb-false league 1 e in let z : league ≡ 2 = omega arith in
        let m : length (own 2 rs) < share_most = rw z at l in omega arith)

    -- so in a buffer for all 2,048 it has room
    pub room-for-own : head_size + 2048 * 4 ≤ length s → (league : ℕ) → is_league league ≡ true → length (own league rs) < share_most → has_room table2 rs s ≡ true
    room-for-own room league g l =
        let n = not-all league g l in
        rw (lt-ltb (length rs) 2048 n, le-leb (head_size + suc (length rs) * 4) (length s) (omega arith))

-- ---- each way in which the check answers

module _ (s : List ℕ) where
  abbrev pub cut : ℕ → List (List ℕ)
  cut n = pieces n 4 (drop head_size s)

  module _ (n : ℕ) (e : check table2 s ≡ Gives n) where
    pub counts : true ≡ shared (cut n) → counted (shared_entries s) ≡ Gives n
    unfolding shared_entries counted
    counts t = rw (check-entries table2 sensible2 s n e, ← t) (ap Gives (piece-count n 4 (drop head_size s)))

    pub counts-not : false ≡ shared (cut n) → counted (shared_entries s) ≡ Refused bad_entry
    unfolding shared_entries counted
    counts-not t = rw (check-entries table2 sensible2 s n e, ← t)

  pub refuses : (n : ℕ) → check table2 s ≡ Refused n → shared_entries s ≡ Refused n
  unfolding shared_entries counted
  refuses n e = rw (same-refusal (entries table2 s) length n e)

  pub count-refused : (n : ℕ) → counted (shared_entries s) ≡ Refused n → shared_entries s ≡ Refused n
  unfolding counted
  count-refused n e = same-refusal (shared_entries s) length n e

  -- what a count tells
  module _ (n : ℕ) (e : counted (shared_entries s) ≡ Gives n) where
    pub count-checks : check table2 s ≡ Gives n
    unfolding counted
    count-checks =
        let f = then-met (shared_entries s) (λ rs. Gives (length rs)) n e in
        rw (shared-tells s f.value f.is).found f.next

    pub count_entries : shared_entries s ≡ Gives (cut n)
    unfolding counted
    count_entries =
        let f = then-met (shared_entries s) (λ rs. Gives (length rs)) n e in
        let z : Gives f.value ≡ Gives (cut n) = sym (shared-tells s f.value f.is).found ∙ check-entries table2 sensible2 s n count-checks in
        f.is ∙ z

    pub count-shared : Shared s (cut n)
    count-shared = shared-tells s (cut n) count_entries
