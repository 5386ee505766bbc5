-- The figures in the lent numbers: six at a time, one kind after the other. Assumes nothing.
use mathlib.Core.Path.{◌≡◌, refl, sym, ap, ◌∙◌}
use mathlib.Core.List.{List, [], ◌∷◌, ◌++◌}
use Prim.Native.Nat.{ℕ, ◌+◌, ◌*◌, ◌/◌, ◌≤◌}
use native.Mathlib.Omega.{arith}
use lib.IntN.{ℤ, pos, sub_ℕ}
use lib.ListN.{length, take, drop, length-append, length-drop}
use lib.Seq.{sets, sets-eq, take_at, drop_at, drop-drop}
use Rattle.sign.proofs.Laws.{same, ints}
use Rattle.rules.specs.Kinds.{Kind, Stored, stored, unpacked}
use Rattle.rules.specs.Days.{counts_days}
use Rattle.rules.proofs.OnKinds.PackLaws.{word-alone}
use Rattle.requests.specs.Gaps.{Placed}
use Rattle.requests.proofs.OnEntries.KeepLaws.{either}
use Rattle.codes.specs.Views.{date_number}
use Rattle.gap_report.specs.Figures.{kind_figures}

-- ---- one number

pub from_nothing : (n : ℕ) → sub_ℕ n 0 ≡ pos n
from_nothing n = same _ _ (simp ints (omega arith))

-- a date's number without its mark
pub number-alone : (d : Stored) → date_number d / 4 * 4 ≡ date_number (stored (unpacked d))
number-alone d = rw (word-alone d) (omega arith)

-- ---- six numbers

pub six-long : (k : Kind) (ps : List Placed) → length (kind_figures k ps) ≡ 6
unfolding kind_figures
six-long k [] = refl
six-long k (p ∷ ps) = either (counts_days k) (λ c. rw c) (λ c. rw c)

-- ---- one kind after the other

-- the first n numbers of a slice that held s are these, and later ones stay
pub record Filled (xs : List ℤ) (n : ℕ) (s out : List ℤ) : Type 0 where
  pub is : out ≡ xs ++ drop n s
  pub long : length xs ≡ n

pub none_filled : (s : List ℤ) → Filled [] 0 s s
none_filled s = record { is = refl; long = refl }

pub six-more : {xs s out : List ℤ} {n : ℕ} (ys next : List ℤ) → Filled xs n s out → length ys ≡ 6 → n + 6 ≤ length s → next ≡ sets out n ys →
    Filled (xs ++ ys) (n + 6) s next
six-more {xs} {s} {out} {n} ys next f six room e =
    let long = f.long in
    let whole : length out ≡ length s = ap length f.is ∙ rw (length-append, length-drop) (omega arith) in
    let front : take n out ≡ xs = ap (take n) f.is ∙ take_at xs (drop n s) n long in
    let after : drop n out ≡ drop n s = ap (drop n) f.is ∙ drop_at xs (drop n s) n long in
    let rest : drop (n + 6) out ≡ drop (n + 6) s = sym (drop-drop 6 n out) ∙ ap (drop 6) after ∙ drop-drop 6 n s in
    record {
      is = e ∙ sets-eq ys out n (omega arith) ∙ rw (front, six, rest);
      long = rw length-append (omega arith);
    }
