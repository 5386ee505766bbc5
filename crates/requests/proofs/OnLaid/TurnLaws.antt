-- The loops over n pieces of k bytes that start at h: a turn of the check that they ascend, and of the halving. Over k and the key. Assumes nothing.
use mathlib.Core.Path.{◌≡◌}
use mathlib.Core.Bool.{Bool, true, false}
use mathlib.Core.List.{List, []}
use Prim.Native.Nat.{ℕ, ◌+◌, ◌*◌, ◌-◌, ◌≤◌, ◌<◌}
use native.Mathlib.Omega.{arith}
use borrow.Author.Tests.{lt-ltb, le-ltb}
use lib.ListN.{take, drop}
use Rattle.requests.specs.Entries.{ascends, place}
use Rattle.rules.specs.Book.{pieces}
use Rattle.requests.proofs.OnEntries.OrderLaws.{place_after, place-before}
use Rattle.rules.proofs.OnBook.PieceLaws.{piece-count}
use Rattle.requests.proofs.OnLaid.CutLaws.{turn, piece-from}

module _ (key : List ℕ → ℕ) (h k n : ℕ) (s : List ℕ) (i : ℕ) where
  abbrev piece : List ℕ
  piece = take k (drop (h + i * k) s)

  -- whether the pieces from place i on ascend from above low on
  abbrev pub ascends_at : ℕ → Bool
  ascends_at low = ascends key low (pieces (n - i) k (drop (h + i * k) s))

  module _ (low : ℕ) where
    pub ascends-on : i < n → low < key piece → ascends_at low ≡ ascends key (key piece) (pieces (n - (i + 1)) k (drop (h + (i + 1) * k) s))
    unfolding ascends
    ascends-on l g = rw (turn h k n s i l, lt-ltb low (key piece) g)

    pub ascends-stops : i < n → key piece ≤ low → ascends_at low ≡ false
    unfolding ascends
    ascends-stops l g = rw (turn h k n s i l, le-ltb low (key piece) g)

    pub ascends-ends : n ≤ i → ascends_at low ≡ true
    unfolding ascends pieces
    ascends-ends l = let e : n - i ≡ 0 = omega arith in rw e

  -- where they ascend: the place of q is after piece i, or not
  module _ (q : ℕ) (a : ascends key 0 (pieces n k (drop h s)) ≡ true) (l : i < n) where
    abbrev rs : List (List ℕ)
    rs = pieces n k (drop h s)

    pub halve-after : key piece < q → i + 1 ≤ place key q rs
    halve-after g = omega (arith, place_after key q 0 rs a i [] (rw piece-count l) (rw (piece-from h k n s i [] l) g))

    pub halve-before : q ≤ key piece → place key q rs ≤ i
    halve-before g = place-before key q 0 rs a i [] (rw piece-count l) (rw (piece-from h k n s i [] l) g)
