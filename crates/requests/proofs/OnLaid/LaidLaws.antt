-- Pieces laid out as the bytes of a frame hold them, and a buffer whose pieces and length were written is such bytes. Over the frame.
-- Assumes nothing.
use mathlib.Core.Path.{◌≡◌, refl, sym, ap, ◌∙◌}
use mathlib.Core.List.{List, [], ◌∷◌, ◌++◌, append_assoc, append-nil}
use Prim.Native.Nat.{ℕ, zero, suc, ◌+◌, ◌*◌, ◌^◌, ◌≤◌, ◌<◌}
use native.Mathlib.Nat.{zero-mul, mul-le-mul_right}
use native.Mathlib.Omega.{arith}
use lib.ListN.{length, get_or, take, drop, length-append, length-drop, take-append-drop}
use lib.Seq.{sets, length-take-le, take-add, take_at, drop_at, get_or_at, drop-append-add, drop-drop}
use Rattle.rules.specs.Words.{big_bytes}
use Rattle.rules.specs.Book.{Frame, length_size, head_size, length_said, version_of, pieces}
use Rattle.rules.proofs.Shared.Rests.{here}
use Rattle.rules.proofs.OnWords.ByteLaws.{byte-count, number-back}
use Rattle.rules.proofs.OnBook.FrameLaws.{Sensible, Framed}
use Rattle.requests.specs.Laid.{joined, laid}
use Rattle.requests.proofs.OnEntries.EachLaws.{Each}

abbrev pub Long : ℕ → List ℕ → Type 0
Long k r = length r ≡ k

-- ---- pieces of k bytes, and the bytes of them one after the other

pub pieces-long : (n k : ℕ) (s : List ℕ) → n * k ≤ length s → Each (Long k) (pieces n k s)
unfolding pieces
pieces-long zero k s h = tt
pieces-long (suc n) k s h = (length-take-le k s (omega arith), pieces-long n k (drop k s) (rw length-drop (omega arith)))

pub joined-pieces : (n k : ℕ) (s : List ℕ) → joined (pieces n k s) ≡ take (n * k) s
unfolding joined pieces
joined-pieces zero k s = rw (zero-mul k)
joined-pieces (suc n) k s =
    let e : suc n * k ≡ k + n * k = omega arith in rw (e, take-add k (n * k) s, joined-pieces n k (drop k s))

pub joined-long : (k : ℕ) (rs : List (List ℕ)) → Each (Long k) rs → length (joined rs) ≡ length rs * k
unfolding joined
joined-long k [] p = omega arith
joined-long k (r ∷ rs) p = let e = joined-long k rs p.1 in let l = p.0 in rw length-append (omega arith)

pieces-joined : (k : ℕ) (rs : List (List ℕ)) (y : List ℕ) → Each (Long k) rs → pieces (length rs) k (joined rs ++ y) ≡ rs
unfolding joined pieces
pieces-joined k [] y p = refl
pieces-joined k (r ∷ rs) y p =
    rw (append_assoc r (joined rs) y, take_at r (joined rs ++ y) k p.0, drop_at r (joined rs ++ y) k p.0, pieces-joined k rs y p.1)

-- one more at the end
pub joined-more : (rs : List (List ℕ)) (r : List ℕ) → joined (rs ++ r ∷ []) ≡ joined rs ++ r
unfolding joined
joined-more [] r = append-nil r
joined-more (x ∷ rs) r = rw (joined-more rs r, append_assoc x (joined rs) r)

-- ---- laid out

module _ (frame : Frame) where
  abbrev k : ℕ
  k = frame.size

  pub laid-long : (rs : List (List ℕ)) → Each (Long k) rs → length (laid frame rs) ≡ head_size + length rs * k
  unfolding laid
  laid-long rs p = rw (length-append, byte-count length_size (1 + length rs * k), joined-long k rs p) (omega arith)

  -- the bytes hold the pieces, whatever follows
  pub laid-framed : Sensible frame → (rs : List (List ℕ)) (y : List ℕ) → length rs ≤ frame.most → Each (Long k) rs → Framed frame (laid frame rs ++ y) rs
  unfolding laid length_said
  laid-framed sensible rs y h p =
      let a = big_bytes length_size (1 + length rs * k) in
      let c = byte-count length_size (1 + length rs * k) in
      let rest = frame.version ∷ joined rs ++ y in
      let is : laid frame rs ++ y ≡ a ++ rest = append_assoc a (frame.version ∷ joined rs) y in
      let m : length rs * k ≤ frame.most * k = mul-le-mul_right k h in
      let f = sensible.fits in
      let z : head_size ≡ length a + 1 = omega arith in
      let l = laid-long rs p in
      record {
        says = rw (is, take_at a rest length_size c) (number-back length_size (1 + length rs * k) (omega arith));
        most = h;
        fits = rw length-append (omega arith);
        version = rw is (get_or_at a frame.version (joined rs ++ y) 0 length_size c);
        cut = rw (is, z, drop-append-add a rest 1) (pieces-joined k rs y p);
      }

  -- a buffer that has the version and m pieces, once their length is written before them
  pub laid-over : (m : ℕ) (u : List ℕ) → head_size + m * k ≤ length u → version_of u ≡ frame.version →
      big_bytes length_size (1 + m * k) ++ drop length_size u ≡ big_bytes length_size (1 + m * k) ++ frame.version ∷ (joined (pieces m k (drop head_size u)) ++ drop (head_size + m * k) u)
  laid-over m u h v =
      let f : drop head_size u ≡ joined (pieces m k (drop head_size u)) ++ drop (head_size + m * k) u =
      sym (take-append-drop (m * k) (drop head_size u)) ∙ rw (joined-pieces m k (drop head_size u), drop-drop (m * k) head_size u) in
      let w : drop length_size u ≡ frame.version ∷ drop head_size u = rw (here u length_size (omega arith), v) in
      ap (λ (x : List ℕ). big_bytes length_size (1 + m * k) ++ x) (w ∙ ap (λ (x : List ℕ). frame.version ∷ x) f)
