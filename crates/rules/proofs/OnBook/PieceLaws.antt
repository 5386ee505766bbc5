-- A list cut into pieces of k bytes: their number, one piece more, the first that is not sound, and the one at a place. Assumes nothing.
use mathlib.Core.Path.{◌≡◌, refl, ap, ◌∙◌}
use mathlib.Core.Bool.{Bool, true, false, cond}
use mathlib.Core.List.{List, [], ◌∷◌, ◌++◌}
use Prim.Native.Nat.{ℕ, zero, suc, ◌+◌, ◌*◌, ◌-◌, ◌≤◌, ◌<◌}
use native.Mathlib.Nat.{zero-mul}
use native.Mathlib.Omega.{arith}
use lib.ListN.{length, take, drop, length-drop}
use lib.Seq.{take-append-le, drop-append-le, drop-drop, drop_at, take_at}
use Rattle.rules.specs.Refusals.{Gives, Refused, no_record}
use Rattle.rules.specs.Book.{pieces, first_bad, pick}

pub piece-count : (n k : ℕ) (s : List ℕ) → length (pieces n k s) ≡ n
unfolding pieces
piece-count zero k s = refl
piece-count (suc n) k s = ap suc (piece-count n k (drop k s))

-- they stand in the first n * k bytes
pub pieces-front : (n k : ℕ) (x y : List ℕ) → length x ≡ n * k → pieces n k (x ++ y) ≡ pieces n k x
unfolding pieces
pieces-front zero k x y h = refl
pieces-front (suc n) k x y h =
    let g : k ≤ length x = omega arith in
    let l : length (drop k x) ≡ n * k = rw length-drop (omega arith) in
    rw (take-append-le k x y g, drop-append-le k x y g, pieces-front n k (drop k x) y l)

-- one piece more is the one after them
pieces-next : (n k : ℕ) (s : List ℕ) → pieces (suc n) k s ≡ pieces n k s ++ take k (drop (n * k) s) ∷ []
unfolding pieces
pieces-next zero k s = rw (zero-mul k)
pieces-next (suc n) k s =
    let e : suc n * k ≡ k + n * k = omega arith in
    rw (e, ← drop-drop (n * k) k s) (ap (λ (l : List (List ℕ)). take k s ∷ l) (pieces-next n k (drop k s)))

pub pieces_more : (n k : ℕ) (x r y : List ℕ) → length x ≡ n * k → length r ≡ k → pieces (suc n) k (x ++ (r ++ y)) ≡ pieces n k x ++ r ∷ []
pieces_more n k x r y h e =
    pieces-next n k (x ++ (r ++ y)) ∙ rw (pieces-front n k x (r ++ y) h, drop_at x (r ++ y) (n * k) h, take_at r y k e)

-- ---- the first that is not sound

-- a first step of the search
pub first_good : (sound : List ℕ → Bool) (r : List ℕ) (rs : List (List ℕ)) → sound r ≡ true → first_bad sound (r ∷ rs) ≡ suc (first_bad sound rs)
unfolding first_bad
first_good sound r rs e = rw e

pub first-not : (sound : List ℕ → Bool) (r : List ℕ) (rs : List (List ℕ)) → sound r ≡ false → first_bad sound (r ∷ rs) ≡ 0
unfolding first_bad
first-not sound r rs e = rw e

pub passed : (t : Bool) (n m : ℕ) → suc m ≤ cond t (suc n) 0 → (t ≡ true) × (m ≤ n)
passed true n m h = (refl, omega arith)
passed false n m h = absurd (omega arith)

-- all are sound: so is each, and with a sound one after them all are
pub each-sound : (sound : List ℕ → Bool) (rs : List (List ℕ)) → length rs ≤ first_bad sound rs → (i : ℕ) (r : List ℕ) → pick rs i ≡ Gives r → sound r ≡ true
unfolding first_bad pick
each-sound sound [] h i r e = let z : ◌≡◌ {A = ℕ} 0 1 = cc in absurd (omega arith)
each-sound sound (x ∷ rs) h zero r e = let p : x ≡ r = cc in rw p at (passed (sound x) _ _ h).0
each-sound sound (x ∷ rs) h (suc i) r e = each-sound sound rs (passed (sound x) _ _ h).1 i r e

pub one_more : (sound : List ℕ → Bool) (rs : List (List ℕ)) (r : List ℕ) → length rs ≤ first_bad sound rs → sound r ≡ true →
    length (rs ++ r ∷ []) ≤ first_bad sound (rs ++ r ∷ [])
unfolding first_bad
one_more sound [] r h e = rw e (omega arith)
one_more sound (x ∷ rs) r h e =
    let p = passed (sound x) _ _ h in let q = one_more sound rs r p.1 e in rw p.0 (omega arith)

-- ---- a search from place to place: what is left of n pieces from place i on, where they start at h

module _ (sound : List ℕ → Bool) (k h : ℕ) (s : List ℕ) (n : ℕ) where
  abbrev pub left_from : ℕ → ℕ
  left_from i = i + first_bad sound (pieces (n - i) k (drop (h + i * k) s))

  module _ (i : ℕ) where
    abbrev piece : List ℕ
    piece = take k (drop (h + i * k) s)

    abbrev after : List (List ℕ)
    after = pieces (n - (i + 1)) k (drop (h + (i + 1) * k) s)

    turn : i < n → pieces (n - i) k (drop (h + i * k) s) ≡ piece ∷ after
    unfolding pieces
    turn l =
        let e : n - i ≡ suc (n - (i + 1)) = omega arith in
        let f : h + (i + 1) * k ≡ h + i * k + k = omega arith in
        rw (e, f, drop-drop k (h + i * k) s)

    -- the piece at i is sound: what is left after it has the answer
    pub search-on : i < n → sound piece ≡ true → left_from i ≡ left_from (i + 1)
    search-on l e = rw (turn l, first_good sound piece after e) (omega arith)

    -- it is not: i is the answer
    pub search-stops : i < n → sound piece ≡ false → left_from i ≡ i
    search-stops l e = rw (turn l, first-not sound piece after e) (omega arith)

    -- nothing is left
    pub search-ends : n ≤ i → left_from i ≡ i
    unfolding pieces first_bad
    search-ends l = let e : n - i ≡ 0 = omega arith in rw e (omega arith)

-- ---- the one at a place

pub pick-old : (rs ys : List (List ℕ)) (i : ℕ) → i < length rs → pick (rs ++ ys) i ≡ pick rs i
unfolding pick
pick-old [] ys i h = absurd (omega arith)
pick-old (r ∷ rs) ys zero h = refl
pick-old (r ∷ rs) ys (suc i) h = pick-old rs ys i (omega arith)

pub pick-new : (rs : List (List ℕ)) (r : List ℕ) → pick (rs ++ r ∷ []) (length rs) ≡ Gives r
unfolding pick
pick-new [] r = refl
pick-new (x ∷ rs) r = pick-new rs r

pub pick-past : (rs : List (List ℕ)) (i : ℕ) → length rs ≤ i → pick rs i ≡ Refused no_record
unfolding pick
pick-past [] i h = refl
pick-past (r ∷ rs) zero h = absurd (omega arith)
pick-past (r ∷ rs) (suc i) h = pick-past rs i (omega arith)

pub pick-piece : (n k : ℕ) (s : List ℕ) (i : ℕ) → i < n → pick (pieces n k s) i ≡ Gives (take k (drop (i * k) s))
unfolding pick pieces
pick-piece zero k s i h = absurd (omega arith)
pick-piece (suc n) k s zero h = rw (zero-mul k)
pick-piece (suc n) k s (suc i) h =
    let e : suc i * k ≡ k + i * k = omega arith in
    rw (e, ← drop-drop (i * k) k s) (pick-piece n k (drop k s) i (omega arith))
