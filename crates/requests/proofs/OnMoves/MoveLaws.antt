-- A book that was moved to another format and back is the same bytes. Over the two formats and the two ways; all that is asked of a record
-- is `Undone`. Assumes nothing.
use mathlib.Core.Path.{◌≡◌, sym, ap, subst, ◌∙◌}
use mathlib.Core.Bool.{Bool, true}
use mathlib.Core.List.{List, ◌++◌, map}
use Prim.Native.Nat.{ℕ, ◌+◌, ◌*◌, ◌≤◌}
use native.Mathlib.Omega.{arith}
use borrow.Author.Tests.{le-leb}
use lib.Dec.{leb}
use lib.ListN.{length, take, drop, length-map}
use Rattle.rules.specs.Refusals.{Answer, Gives, ◌then◌, demand, no_room}
use Rattle.rules.specs.Book.{Frame, Format, sound_by, length_size, head_size, length_said, first_bad, all_pass, records}
use Rattle.rules.proofs.OnBook.FrameLaws.{Sensible, Framed, demand-met, then-met}
use Rattle.rules.proofs.OnBook.BookLaws.{Holds, pass-met, none-fails, holds-found, found-holds}
use Rattle.requests.specs.Laid.{laid}
use Rattle.requests.specs.Moves.{Way, field_or_mark, room_for, leaving, moved, move_answer, filled_with, move_buffer}
use Rattle.requests.proofs.OnEntries.EachLaws.{Each}
use Rattle.requests.proofs.OnLaid.LaidLaws.{Long, laid-framed}
use Rattle.requests.proofs.OnLaid.BytesLaws.{Bytes, framed-long, framed-laid}
use Rattle.requests.proofs.OnMoves.PassLaws.{each_both, each-passes, none-bad, each-changed, changed-back}

-- what the way makes of a record, and that the way back makes the record of it again
pub record Undone {A B : Type 0} {from : Format A} {to : Format B} (way : Way from to) (back : Way to from) (r : List ℕ) : Type 0 where
  pub long : length (way.change r) ≡ to.frame.size
  pub sound : sound_by to (way.change r) ≡ true
  pub passes : back.passes (way.change r) ≡ true
  pub same : back.change (way.change r) ≡ r

-- a record that moves
abbrev pub Moves : {A B : Type 0} {from : Format A} {to : Format B} → Way from to → List ℕ → Type 0
Moves {from = from} way r = Long from.frame.size r × ((sound_by from r ≡ true) × (way.passes r ≡ true))

-- what leaves a book
pub record Left {A B : Type 0} {from : Format A} {to : Format B} (way : Way from to) (s : List ℕ) (xs : List (List ℕ)) : Type 0 where
  pub list : List (List ℕ)
  pub holds : Holds from s list
  pub moves : Each (Moves way) list
  pub become : map way.change list ≡ xs

module _ {A B : Type 0} {from : Format A} {to : Format B} (way : Way from to) (sensible : Sensible from.frame) where
  pub leaving-tells : (s : List ℕ) (xs : List (List ℕ)) → leaving way s ≡ Gives xs → Left way s xs
  unfolding leaving
  leaving-tells s xs e =
      let g = then-met (records from s then all_pass field_or_mark way.passes) (λ rs. Gives (map way.change rs)) xs e in
      let f = then-met (records from s) (all_pass field_or_mark way.passes) g.value g.is in
      let p = pass-met field_or_mark way.passes f.value g.value f.next in
      let rs = f.value in
      let h = found-holds from sensible s rs f.is in
      let passed = each-passes way.passes rs p.0 in
      let long = framed-long from.frame s rs h.frame in
      let b : map way.change g.value ≡ xs = cc g.next in
      record {
        list = rs;
        holds = h;
        moves = each_both _ _ rs long (each_both _ _ rs (each-passes (sound_by from) rs h.sound) passed);
        become = rw p.1 b;
      }

  -- records that each may move leave
  pub leaves : (s : List ℕ) (rs : List (List ℕ)) → Holds from s rs → Each (λ r. way.passes r ≡ true) rs → leaving way s ≡ Gives (map way.change rs)
  unfolding leaving
  leaves s rs h p = rw (holds-found from sensible s rs h, none-fails field_or_mark way.passes rs (none-bad way.passes rs p))

-- where the target has room, all that leaves is moved; and what was moved left
module _ {A B : Type 0} {from : Format A} {to : Format B} (way : Way from to) (s t : List ℕ) (xs : List (List ℕ)) where
  pub moves-all : leaving way s ≡ Gives xs → room_for to.frame (length xs) ≤ length t → moved way s t ≡ Gives xs
  unfolding moved
  moves-all e h = rw (e, le-leb (room_for to.frame (length xs)) (length t) h)

  pub moved-left : moved way s t ≡ Gives xs → leaving way s ≡ Gives xs
  unfolding moved
  moved-left e =
      let f = then-met (leaving way s) _ xs e in
      let d = demand-met (leb (room_for to.frame (length f.value)) (length t)) no_room _ xs f.next in
      let v : f.value ≡ xs = cc d.1 in
      f.is ∙ ap Gives v

module _ {A B : Type 0} {from : Format A} {to : Format B} (way : Way from to) (back : Way to from)
    (some : Sensible from.frame) (sensible : Sensible to.frame) (room : from.frame.most ≤ to.frame.most)
    (undone : (r : List ℕ) → Moves way r → Undone way back r) where
  -- what was moved is a book of the other format, whatever follows it
  pub arrives : (s : List ℕ) (xs : List (List ℕ)) (y : List ℕ) → leaving way s ≡ Gives xs → Holds to (laid to.frame xs ++ y) xs
  arrives s xs y e =
      let l = leaving-tells way some s xs e in
      let rs = l.list in
      let long : Each (Long to.frame.size) (map way.change rs) = each-changed _ way.change _ (λ r m. (undone r m).long) rs l.moves in
      let sound : Each (λ r. sound_by to r ≡ true) (map way.change rs) = each-changed _ way.change _ (λ r m. (undone r m).sound) rs l.moves in
      let n : length xs ≡ length rs = ap length (sym l.become) ∙ length-map rs way.change in
      let m = l.holds.frame.most in
      record {
        frame = laid-framed to.frame sensible xs y (omega arith) (rw l.become at long);
        sound = none-bad (sound_by to) xs (rw l.become at sound);
      }

  -- and from there the records leave as they were
  leaves-back : (s : List ℕ) (xs : List (List ℕ)) (y : List ℕ) (e : leaving way s ≡ Gives xs) → leaving back (laid to.frame xs ++ y) ≡ Gives (leaving-tells way some s xs e).list
  leaves-back s xs y e =
      let l = leaving-tells way some s xs e in
      let rs = l.list in
      let ready : Each (λ r. back.passes r ≡ true) (map way.change rs) = each-changed _ way.change _ (λ r m. (undone r m).passes) rs l.moves in
      let same : map back.change xs ≡ rs = rw l.become at (changed-back _ way.change back.change (λ r m. (undone r m).same) rs l.moves) in
      leaves back sensible (laid to.frame xs ++ y) xs (arrives s xs y e) (rw l.become at ready) ∙ ap Gives same

  -- "and back gives the same bytes": a book that moved moves back into any third buffer that has room for it, which then starts with that
  -- book's bytes and goes on as it was
  module _ (s t u : List ℕ) (b : Bytes s) (fits : length_said s + length_size ≤ length u) where
    abbrev book : List ℕ
    book = take (length_said s + length_size) s

    pub record Back (n : ℕ) : Type 0 where
      pub answer : move_answer back (move_buffer way s t) u ≡ Gives n
      pub bytes : move_buffer back (move_buffer way s t) u ≡ book ++ drop (length_said s + length_size) u

    comes_back : (xs rs : List (List ℕ)) → moved way s t ≡ Gives xs → Framed from.frame s rs → length rs ≡ length xs →
        ((y : List ℕ) → leaving back (laid to.frame xs ++ y) ≡ Gives rs) → Back (length xs)
    unfolding move_answer filled_with
    comes_back xs rs is h c again =
        let said = h.says in
        let size : room_for from.frame (length rs) ≡ length_said s + length_size = omega arith in
        let y = drop (room_for to.frame (length xs)) t in
        let all : moved back (laid to.frame xs ++ y) u ≡ Gives rs = moves-all back (laid to.frame xs ++ y) u rs (again y) (omega arith) in
        record {
          answer = rw (is, all, c);
          bytes = rw (is, all, size) (ap (λ (x : List ℕ). x ++ drop (length_said s + length_size) u) (framed-laid from.frame s rs h b));
        }

    pub there_and_back : (n : ℕ) → move_answer way s t ≡ Gives n → Back n
    unfolding move_answer
    there_and_back n e =
        let g = then-met (moved way s t) (λ rs. Gives (length rs)) n e in
        let xs = g.value in
        let c : length xs ≡ n = cc g.next in
        let is = moved-left way s t xs g.is in
        let l = leaving-tells way some s xs is in
        let m : length l.list ≡ length xs = sym (length-map l.list way.change) ∙ ap length l.become in
        subst Back c (comes_back xs l.list g.is l.holds.frame m (λ y. leaves-back s xs y is))
