-- Pieces written one after the other, each as a change of one that stands in another buffer, and the frame of them: what is stored is what
-- `laid` says. Over the change and both sizes. Assumes nothing.
use mathlib.Core.Path.{◌≡◌, refl, ap, ◌∙◌}
use mathlib.Core.List.{List, [], ◌∷◌, ◌++◌, map, map-append, append_assoc}
use Prim.Native.Nat.{ℕ, suc, ◌+◌, ◌*◌, ◌≤◌}
use native.Mathlib.Nat.{add-zero, zero-add}
use native.Mathlib.Omega.{arith}
use lib.ListN.{length, take, drop, set, length-append, length-drop, length-map}
use lib.Seq.{sets, sets-eq, drop-drop}
use Rattle.rules.specs.Words.{big_bytes}
use Rattle.rules.specs.Book.{Frame, length_size, head_size, pieces}
use Rattle.rules.proofs.OnWords.ByteLaws.{byte-count}
use Rattle.rules.proofs.OnBook.PieceLaws.{piece-count}
use Rattle.requests.specs.Laid.{joined, laid}
use Rattle.requests.proofs.OnEntries.EachLaws.{Each}
use Rattle.requests.proofs.OnMoves.PassLaws.{each-changed}
use Rattle.requests.proofs.OnLaid.LaidLaws.{Long, pieces-long, joined-long, joined-more}
use Rattle.requests.proofs.OnLaid.CutLaws.{pieces-last}

-- stores after stores
pub sets_more : (x y t : List ℕ) (a : ℕ) → sets (sets t a x) (a + length x) y ≡ sets t a (x ++ y)
sets_more [] y t a = rw add-zero
sets_more (v ∷ x) y t a = let e : a + suc (length x) ≡ suc a + length x = omega arith in rw e (sets_more x y (set t a v) (suc a))

-- ---- one piece after the other

module _ (change : List ℕ → List ℕ) (size newSize : ℕ) (long : (r : List ℕ) → Long size r → Long newSize (change r)) (s : List ℕ) where
  -- the first i pieces of s, changed
  abbrev pub first_ones : ℕ → List (List ℕ)
  first_ones i = map change (pieces i size (drop head_size s))

  pub ones-long : (i : ℕ) → head_size + i * size ≤ length s → Each (Long newSize) (first_ones i)
  ones-long i h =
      each-changed (Long size) change (Long newSize) long (pieces i size (drop head_size s)) (pieces-long i size (drop head_size s) (rw length-drop (omega arith)))

  pub ones-count : (i : ℕ) → length (first_ones i) ≡ i
  ones-count i = length-map (pieces i size (drop head_size s)) change ∙ piece-count i size (drop head_size s)

  pub body-long : (i : ℕ) → head_size + i * size ≤ length s → length (joined (first_ones i)) ≡ i * newSize
  body-long i h = joined-long newSize (first_ones i) (ones-long i h) ∙ rw (ones-count i)

  -- none yet
  pub ones_none : (t : List ℕ) → t ≡ sets t head_size (joined (first_ones 0))
  unfolding joined pieces
  ones_none t = refl

  -- one more
  pub ones-more : (i : ℕ) (t out t₁ : List ℕ) → head_size + i * size ≤ length s → out ≡ sets t head_size (joined (first_ones i)) →
      t₁ ≡ sets out (head_size + i * newSize) (change (take size (drop (head_size + i * size) s))) → t₁ ≡ sets t head_size (joined (first_ones (i + 1)))
  ones-more i t out t₁ h e p =
      let x = joined (first_ones i) in
      let r = take size (drop (head_size + i * size) s) in
      let l : head_size + i * newSize ≡ head_size + length x = rw (body-long i h) in
      let last : pieces (i + 1) size (drop head_size s) ≡ pieces i size (drop head_size s) ++ r ∷ [] =
      (let n : i + 1 ≡ suc i = omega arith in rw (n, pieces-last i size (drop head_size s), drop-drop (i * size) head_size s)) in
      let more : joined (first_ones (i + 1)) ≡ x ++ change r =
      rw (last, map-append change (pieces i size (drop head_size s)) (r ∷ []), joined-more (first_ones i) (change r)) in
      p ∙ rw (e, l, sets_more x (change r) t head_size, more)

-- ---- the frame of them: the length, the version byte and the pieces, each stored after the other

module _ (frame : Frame) (rs : List (List ℕ)) (n : ℕ) (count : length rs ≡ n) (t : List ℕ) where
  abbrev k : ℕ
  k = frame.size

  pub stores : (t₁ t₂ : List ℕ) → length (joined rs) ≡ n * k → head_size + n * k ≤ length t → t₁ ≡ sets t 0 (big_bytes length_size (1 + n * k)) →
      t₂ ≡ sets (set t₁ length_size frame.version) head_size (joined rs) → t₂ ≡ laid frame rs ++ drop (head_size + n * k) t
  unfolding laid
  stores t₁ t₂ l room p q =
      let a = big_bytes length_size (1 + n * k) in
      let v = frame.version in
      let c : length a ≡ length_size = byte-count length_size (1 + n * k) in
      let head : sets (sets t 0 a) length_size (v ∷ []) ≡ sets t 0 (a ++ v ∷ []) =
      (let z : length_size ≡ 0 + length a = omega arith in ap (λ (m : ℕ). sets (sets t 0 a) m (v ∷ [])) z ∙ sets_more a (v ∷ []) t 0) in
      let whole : sets (sets t 0 (a ++ v ∷ [])) head_size (joined rs) ≡ sets t 0 (a ++ v ∷ joined rs) =
      (let z : head_size ≡ 0 + length (a ++ v ∷ []) = rw (length-append, c) in
      ap (λ (m : ℕ). sets (sets t 0 (a ++ v ∷ [])) m (joined rs)) z ∙ sets_more (a ++ v ∷ []) (joined rs) t 0 ∙ ap (sets t 0) (append_assoc a (v ∷ []) (joined rs))) in
      let all : length (a ++ v ∷ joined rs) ≡ head_size + n * k = rw (length-append, c) (omega arith) in
      q ∙ rw (p, head, whole, count) (sets-eq (a ++ v ∷ joined rs) t 0 (omega arith) ∙ rw (all, zero-add))
