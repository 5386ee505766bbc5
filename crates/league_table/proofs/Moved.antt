-- A version 1 table written as one of league 1: an entry's bytes, and each way in which the move answers, with the target then.
-- Assumes nothing.
use mathlib.Core.Path.{◌≡◌, refl, sym, ap}
use mathlib.Core.List.{List, map}
use Prim.Native.Nat.{ℕ, suc, ◌+◌, ◌*◌, ◌-◌, ◌≤◌, ◌<◌}
use native.Mathlib.Nat.{add-zero}
use native.Mathlib.Omega.{arith}
use borrow.Author.Tests.{le-leb, lt-leb}
use lib.Dec.{lit<}
use lib.ListN.{length, take, drop, set, length-set, length-drop}
use lib.Seq.{sets, length-take-le}
use borrow.Rule.Slice.PartMut.{put_mid}
use Rattle.rules.specs.Words.{big_bytes}
use Rattle.rules.specs.Refusals.{Answer, Gives, Refused}
use Rattle.rules.specs.Book.{length_size, head_size, pieces}
use Rattle.rules.proofs.OnBook.PieceLaws.{piece-count}
use Rattle.rules.proofs.OnBook.FrameLaws.{Sensible}
use Rattle.refusals.specs.declared.Refusal.{Refusal}
use Rattle.refusals.specs.Answers.{refusal_as}
use Rattle.refusals.proofs.RefusalLaws.{refused, refusal-then}
use Rattle.frame.proofs.Refusing.{refused-before}
use Rattle.frame.proofs.Parts.{put-at}
use Rattle.field_table.proofs.Calls.{unchanged}
use Rattle.requests.specs.Laid.{joined}
use Rattle.requests.specs.FieldTable.{table_frame, table1, table_full, entries, counted, check, table_buffer}
use Rattle.requests.specs.Leagues.{table2, share_most, of_first, moved_entries, moved_buffer}
use Rattle.requests.proofs.OnLaid.LaidLaws.{Long}
use Rattle.requests.proofs.OnLaid.StoreLaws.{ones-count, body-long, stores}
use Rattle.requests.proofs.OnFieldTable.HeldLaws.{sensible-table, check-entries, check-fits}

-- ---- one entry

-- its bytes, league 1 before them
pub first-stores : (s t : List ℕ) (at target : ℕ) → at + 3 ≤ length s → target + 4 ≤ length t → {v : List ℕ} → v ≡ take (at + 3 - at) (drop at s) →
    put_mid (target + 1) (target + 4 - (target + 1)) (set t target 1) v ≡ sets t target (of_first (take 3 (drop at s)))
first-stores s t at target h room {v} e =
    let n : at + 3 - at ≡ 3 = omega arith in
    let is : v ≡ take 3 (drop at s) = rw n at e in
    let three : length (take 3 (drop at s)) ≡ 3 = length-take-le 3 (drop at s) (rw length-drop (omega arith)) in
    let m : target + 4 - (target + 1) ≡ target + 1 + length (take 3 (drop at s)) - (target + 1) = omega arith in
    let next : target + 1 ≡ suc target = omega arith in
    rw (is, m, put-at (set t target 1) (take 3 (drop at s)) (target + 1) (rw length-set (omega arith)), next)

pub first-long : (r : List ℕ) → Long 3 r → Long 4 (of_first r)
first-long r l = omega arith

-- ---- the move

sensible1 : Sensible (table_frame table1)
sensible1 = sensible-table table1 (lit< tt)

module _ (s t : List ℕ) where
  -- the answer is x, and u the target then
  abbrev pub Moves : Answer ℕ → List ℕ → Type 0
  Moves x u = (x ≡ counted (moved_entries s t)) × (u ≡ moved_buffer s t)

  pub moved-refusing : (e : Refusal) → refusal_as e ≡ check table1 s → Moves (refusal_as e) t
  unfolding moved_entries counted
  moved-refusing e h =
      rw (refused-before e (entries table1 s) length (sym h), refusal-then e) (sym (refusal-then e _), unchanged table2 0 t (refusal_as e) (refused _ e))

  module _ {n : ℕ} (e : Gives n ≡ check table1 s) where
    abbrev rs : List (List ℕ)
    rs = pieces n 3 (drop head_size s)

    are : entries table1 s ≡ Gives rs
    are = check-entries table1 sensible1 s n (sym e)

    many : length rs ≡ n
    many = piece-count n 3 (drop head_size s)

    pub fits : head_size + n * 3 ≤ length s
    fits = check-fits table1 sensible1 s n (sym e)

    pub moved-over : share_most < n → Moves (Refused table_full) t
    unfolding moved_entries counted table_buffer
    moved-over l = rw (are, many, lt-leb n share_most l) (refl, refl)

    module _ (l : n ≤ share_most) where
      pub moved-short : length t < head_size + n * 4 → Moves (Refused table_full) t
      unfolding moved_entries counted table_buffer
      moved-short h = rw (are, many, le-leb n share_most l, lt-leb (head_size + n * 4) (length t) h) (refl, refl)

      pub moved-so : {t₁ t₂ : List ℕ} → head_size + n * 4 ≤ length t → t₁ ≡ sets t 0 (big_bytes length_size (1 + n * 4)) →
          t₂ ≡ sets (set t₁ length_size 2) head_size (joined (map of_first rs)) → Moves (Gives n) t₂
      unfolding moved_entries counted table_buffer
      moved-so {t₁} {t₂} h p q =
          let c = ones-count of_first 3 4 first-long s n in
          let b = body-long of_first 3 4 first-long s n fits in
          rw (are, many, le-leb n share_most l, le-leb (head_size + n * 4) (length t) h) (
            ap Gives (sym c),
            rw (c, add-zero) (stores (table_frame table2) (map of_first rs) n c t t₁ t₂ b h p q),
          )
