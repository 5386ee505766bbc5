-- Bytes cut into pieces of k: the piece at a place, the pieces before and after a place, and what the pieces are once one was put in, written
-- over or taken out. Over k. Assumes nothing.
use mathlib.Core.Path.{◌≡◌, refl, sym, ap, ◌∙◌}
use mathlib.Core.List.{List, [], ◌∷◌, ◌++◌, append-nil}
use Prim.Native.Nat.{ℕ, zero, suc, ◌+◌, ◌*◌, ◌-◌, ◌≤◌, ◌<◌}
use native.Mathlib.Nat.{zero-mul, sub-zero, add-mul, mul-le-mul_right}
use native.Mathlib.Omega.{arith}
use lib.ListN.{length, get_or, take, drop, length-drop, take-append-drop}
use lib.Seq.{take-append-le, drop-append-le, drop-drop, drop_at, take_at, length-take-le}
use Rattle.rules.specs.Book.{pieces}

-- the pieces of two lists, where the first has n of them
pub pieces-join : (n m k : ℕ) (x y : List ℕ) → length x ≡ n * k → pieces (n + m) k (x ++ y) ≡ pieces n k x ++ pieces m k y
unfolding pieces
pieces-join zero m k [] y h = let e : zero + m ≡ m = omega arith in rw e
pieces-join zero m k (a ∷ x) y h = absurd (omega (arith, zero-mul k))
pieces-join (suc n) m k x y h =
    let e : suc n + m ≡ suc (n + m) = omega arith in
    let g : k ≤ length x = omega arith in
    let l : length (drop k x) ≡ n * k = rw length-drop (omega arith) in
    rw (e, take-append-le k x y g, drop-append-le k x y g, pieces-join n m k (drop k x) y l)

-- they stand in the first n * k bytes
pub pieces-front : (n k : ℕ) (s y : List ℕ) → n * k ≤ length s → pieces n k (take (n * k) s ++ y) ≡ pieces n k s
unfolding pieces
pieces-front n k s y h =
    let l : length (take (n * k) s) ≡ n * k = length-take-le (n * k) s h in
    let z : n + 0 ≡ n = omega arith in
    let front : (t : List ℕ) → pieces (n + 0) k (take (n * k) s ++ t) ≡ pieces n k (take (n * k) s) ++ [] = λ t. pieces-join n 0 k (take (n * k) s) t l in
    (rw z at (front y)) ∙ sym (rw (z, take-append-drop (n * k) s) at (front (drop (n * k) s)))

pub pieces-drop : (i n k : ℕ) (s : List ℕ) → i ≤ n → drop i (pieces n k s) ≡ pieces (n - i) k (drop (i * k) s)
unfolding pieces
pieces-drop zero n k s h = rw (sub-zero, zero-mul)
pieces-drop (suc i) zero k s h = absurd (omega arith)
pieces-drop (suc i) (suc n) k s h =
    let e : suc n - suc i ≡ n - i = omega arith in
    let f : suc i * k ≡ k + i * k = omega arith in
    rw (e, f, ← drop-drop (i * k) k s) (pieces-drop i n k (drop k s) (omega arith))

pub pieces-take : (i n k : ℕ) (s : List ℕ) → i ≤ n → take i (pieces n k s) ≡ pieces i k s
unfolding pieces
pieces-take zero n k s h = refl
pieces-take (suc i) zero k s h = absurd (omega arith)
pieces-take (suc i) (suc n) k s h = ap (λ (l : List (List ℕ)). take k s ∷ l) (pieces-take i n k (drop k s) (omega arith))

pub piece-at : (n k : ℕ) (s : List ℕ) (i : ℕ) (d : List ℕ) → i < n → get_or (pieces n k s) i d ≡ take k (drop (i * k) s)
unfolding pieces
piece-at zero k s i d h = absurd (omega arith)
piece-at (suc n) k s zero d h = rw zero-mul
piece-at (suc n) k s (suc i) d h =
    let e : suc i * k ≡ k + i * k = omega arith in
    rw (e, ← drop-drop (i * k) k s) (piece-at n k (drop k s) i d (omega arith))

-- one piece more, at the end
pub pieces-last : (n k : ℕ) (s : List ℕ) → pieces (suc n) k s ≡ pieces n k s ++ take k (drop (n * k) s) ∷ []
unfolding pieces
pieces-last zero k s = rw zero-mul
pieces-last (suc n) k s =
    let e : suc n * k ≡ k + n * k = omega arith in
    ap (λ (l : List (List ℕ)). take k s ∷ l) (pieces-last n k (drop k s) ∙ rw (drop-drop (n * k) k s, e))

-- ---- where they start at h

module _ (h k n : ℕ) (s : List ℕ) where
  -- a step from place to place
  pub turn : (i : ℕ) → i < n → pieces (n - i) k (drop (h + i * k) s) ≡ take k (drop (h + i * k) s) ∷ pieces (n - (i + 1)) k (drop (h + (i + 1) * k) s)
  unfolding pieces
  turn i l =
      let e : n - i ≡ suc (n - (i + 1)) = omega arith in
      let f : h + (i + 1) * k ≡ h + i * k + k = omega arith in
      rw (e, f, drop-drop k (h + i * k) s)

  pub piece-from : (i : ℕ) (d : List ℕ) → i < n → get_or (pieces n k (drop h s)) i d ≡ take k (drop (h + i * k) s)
  piece-from i d l = piece-at n k (drop h s) i d l ∙ rw drop-drop

two-parts : (m i n k : ℕ) → m + i ≡ n → m * k + i * k ≡ n * k
two-parts m i n k e = sym (add-mul m i k) ∙ ap (λ (x : ℕ). x * k) e

-- ---- one piece more, over, or less; t starts with n pieces

module _ (n k : ℕ) (t : List ℕ) (enough : n * k ≤ length t) (i : ℕ) where
  abbrev rs : List (List ℕ)
  rs = pieces n k t

  -- the pieces before place i, and m others after them
  begun : i ≤ n → (m : ℕ) (y : List ℕ) → pieces (i + m) k (take (i * k) t ++ y) ≡ take i rs ++ pieces m k y
  begun l m y =
      let g : i * k ≤ n * k = mul-le-mul_right k l in
      let u : i * k ≤ length t = omega arith in
      pieces-join i m k (take (i * k) t) y (length-take-le (i * k) t u)
      ∙ ap (λ (x : List (List ℕ)). x ++ pieces m k y) ((rw append-nil at (pieces-front i k t [] u)) ∙ sym (pieces-take i n k t l))

  first_of : (m : ℕ) (v y : List ℕ) → length v ≡ k → pieces (suc m) k (v ++ y) ≡ v ∷ pieces m k y
  unfolding pieces
  first_of m v y e = rw (take_at v y k e, drop_at v y k e)

  -- v was put in before place i
  pub put_in : (v y : List ℕ) → length v ≡ k → i ≤ n
      → pieces (n + 1) k (take (i * k) t ++ (v ++ (take ((n - i) * k) (drop (i * k) t) ++ y))) ≡ take i rs ++ v ∷ drop i rs
  put_in v y e l =
      let z : n + 1 ≡ i + suc (n - i) = omega arith in
      let w : (n - i) * k + i * k ≡ n * k = two-parts (n - i) i n k (omega arith) in
      rw (z, begun l (suc (n - i)) _, first_of (n - i) v _ e, pieces-front (n - i) k (drop (i * k) t) y (rw length-drop (omega arith)), pieces-drop i n k t l)

  -- v was written over the piece at place i
  pub put-over : (v : List ℕ) → length v ≡ k → i < n → pieces n k (take (i * k) t ++ (v ++ drop ((i + 1) * k) t)) ≡ take i rs ++ v ∷ drop (i + 1) rs
  put-over v e l =
      let z : n ≡ i + suc (n - (i + 1)) = omega arith in
      ap (λ (m : ℕ). pieces m k (take (i * k) t ++ (v ++ drop ((i + 1) * k) t))) z
      ∙ begun (omega arith) (suc (n - (i + 1))) _ ∙ rw (first_of (n - (i + 1)) v _ e, pieces-drop (i + 1) n k t (omega arith))

  -- the piece at place i was taken out
  pub taken_out : (y : List ℕ) → i < n → pieces (n - 1) k (take (i * k) t ++ (take ((n - (i + 1)) * k) (drop ((i + 1) * k) t) ++ y)) ≡ take i rs ++ drop (i + 1) rs
  taken_out y l =
      let z : n - 1 ≡ i + (n - (i + 1)) = omega arith in
      let w : (n - (i + 1)) * k + (i + 1) * k ≡ n * k = two-parts (n - (i + 1)) (i + 1) n k (omega arith) in
      rw (z, begun (omega arith) (n - (i + 1)) _, pieces-front (n - (i + 1)) k (drop ((i + 1) * k) t) y (rw length-drop (omega arith)), pieces-drop (i + 1) n k t (omega arith))
