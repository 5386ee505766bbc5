-- A turn of the check that n entries declare fields in order: what is left of them from place i on. Over the bytes of a key. Assumes nothing.
use mathlib.Core.Path.{◌≡◌, refl, ◌∙◌}
use mathlib.Core.Bool.{Bool, true, false, ◌&&◌, and-false}
use mathlib.Core.List.{List}
use Prim.Native.Nat.{ℕ, ◌+◌, ◌*◌, ◌-◌, ◌^◌, ◌≤◌, ◌<◌}
use native.Mathlib.Omega.{arith}
use borrow.Author.Tests.{lt-ltb, le-ltb}
use lib.ListN.{get_or, take, drop}
use lib.Seq.{get_or-take, get_or-drop}
use Rattle.rules.specs.Refusals.{given}
use Rattle.rules.specs.Book.{head_size, pieces}
use Rattle.rules.proofs.OnKinds.KindLaws.{yes-within}
use Rattle.requests.specs.Entries.{ascends}
use Rattle.requests.specs.FieldTable.{key_in, code_in, is_key, declared_kind, declaring, declared_by, all_declare}
use Rattle.requests.proofs.OnLaid.CutLaws.{turn}
use Rattle.requests.proofs.OnFieldTable.EntryLaws.{given-then, declares-by}

-- the code of the entry that starts at `at`
pub code_here : (s : List ℕ) (at key_size : ℕ) → code_in key_size (take (key_size + 1) (drop at s)) ≡ get_or s (at + key_size) 0
unfolding code_in
code_here s at key_size = get_or-take (key_size + 1) (drop at s) key_size 0 (omega arith) ∙ get_or-drop at s key_size 0

-- ---- one entry

module _ (key_size : ℕ) (r : List ℕ) where
  above_zero : (low : ℕ) → low < key_in key_size r → key_in key_size r < 256 ^ key_size → is_key key_size (key_in key_size r) ≡ true
  above_zero low g h = yes-within 1 (256 ^ key_size - 1) (key_in key_size r) (omega arith) (omega arith)

  -- a key that is above another declares what its code does
  by_code : (low : ℕ) → low < key_in key_size r → key_in key_size r < 256 ^ key_size → given (declared_by key_size r) ≡ given (declared_kind (code_in key_size r))
  by_code low g h = declares-by key_size r (above_zero low g h)

  no_code : given (declared_kind (code_in key_size r)) ≡ false → given (declared_by key_size r) ≡ false
  unfolding declared_by declaring
  no_code e = inner (is_key key_size (key_in key_size r)) refl
    where
      inner : (b : Bool) → is_key key_size (key_in key_size r) ≡ b → given (declaring key_size (key_in key_size r) (code_in key_size r)) ≡ false
      inner true p = rw p (given-then (declared_kind (code_in key_size r)) _ ∙ e)
      inner false p = rw p

-- ---- n of them, from place i on

module _ (key_size n : ℕ) (s : List ℕ) (i : ℕ) where
  abbrev piece : List ℕ
  piece = take (key_size + 1) (drop (head_size + i * (key_size + 1)) s)

  -- whether those from place i on declare fields in order, from above low on
  abbrev pub order_at : ℕ → Bool
  order_at low =
      let rs = pieces (n - i) (key_size + 1) (drop (head_size + i * (key_size + 1)) s) in
      all_declare key_size rs && ascends (key_in key_size) low rs

  abbrev key : ℕ
  key = key_in key_size piece

  abbrev after : List (List ℕ)
  after = pieces (n - (i + 1)) (key_size + 1) (drop (head_size + (i + 1) * (key_size + 1)) s)

  module _ (low : ℕ) where
    pub order-on : i < n → low < key → key < 256 ^ key_size → given (declared_kind (code_in key_size piece)) ≡ true →
        order_at low ≡ (all_declare key_size after && ascends (key_in key_size) key after)
    unfolding all_declare ascends
    order-on l g h e = rw (turn head_size (key_size + 1) n s i l, by_code key_size piece low g h, e, lt-ltb low key g)

    pub order_below : i < n → key ≤ low → order_at low ≡ false
    unfolding all_declare ascends
    order_below l g = rw (turn head_size (key_size + 1) n s i l, le-ltb low key g) (and-false (given (declared_by key_size piece) && all_declare key_size after))

    pub order-none : i < n → given (declared_kind (code_in key_size piece)) ≡ false → order_at low ≡ false
    unfolding all_declare
    order-none l e = rw (turn head_size (key_size + 1) n s i l, no_code key_size piece e)

    pub order-ends : n ≤ i → order_at low ≡ true
    unfolding all_declare ascends pieces
    order-ends l = let e : n - i ≡ 0 = omega arith in rw e
