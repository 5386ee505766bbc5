-- A frame's own bytes are those that its pieces are laid out as. Over the frame. Assumes nothing.
use mathlib.Core.Path.{◌≡◌, sym, ap, ◌∙◌}
use mathlib.Core.List.{List, [], ◌∷◌, ◌++◌}
use Prim.Native.Nat.{ℕ, suc, ◌+◌, ◌*◌, ◌/◌, ◌%◌, ◌≤◌, ◌<◌}
use native.Mathlib.Omega.{arith}
use lib.ListN.{length, get_or, take, drop, length-drop}
use lib.Seq.{take-add}
use Rattle.rules.specs.Words.{big_bytes}
use Rattle.rules.specs.Book.{Frame, length_size, head_size, length_said}
use Rattle.rules.proofs.Shared.Rests.{here}
use Rattle.rules.proofs.OnWords.ByteLaws.{four_bytes, four-bytes-of}
use Rattle.rules.proofs.OnBook.FrameLaws.{Framed}
use Rattle.requests.specs.Laid.{joined, laid}
use Rattle.requests.proofs.OnEntries.EachLaws.{Each}
use Rattle.requests.proofs.OnLaid.LaidLaws.{Long, pieces-long, joined-pieces}

-- every byte is one
abbrev pub Bytes : List ℕ → Type 0
Bytes s = (i : ℕ) → get_or s i 0 < 256

-- the four bytes of the length that they say
length_back : (s : List ℕ) → length_size ≤ length s → Bytes s → big_bytes length_size (length_said s) ≡ take length_size s
length_back s h b =
    let L = length_said s in
    let e = four_bytes s h in
    let b₀ = b 0 in let b₁ = b 1 in let b₂ = b 2 in let b₃ = b 3 in
    let w : take 4 s ≡ get_or s 0 0 ∷ get_or s 1 0 ∷ get_or s 2 0 ∷ get_or s 3 0 ∷ [] =
    rw (here s 0 (omega arith), here s 1 (omega arith), here s 2 (omega arith), here s 3 (omega arith)) in
    let c₀ : L / 16777216 ≡ get_or s 0 0 = omega arith in
    let c₁ : L / 65536 % 256 ≡ get_or s 1 0 = omega arith in
    let c₂ : L / 256 % 256 ≡ get_or s 2 0 = omega arith in
    let c₃ : L % 256 ≡ get_or s 3 0 = omega arith in
    four-bytes-of L (omega arith) ∙ rw (c₀, c₁, c₂, c₃) (sym w)

module _ (frame : Frame) (s : List ℕ) (rs : List (List ℕ)) (h : Framed frame s rs) where
  abbrev k : ℕ
  k = frame.size

  pub framed-long : Each (Long k) rs
  framed-long =
      let f = h.fits in
      rw h.cut at (pieces-long (length rs) k (drop head_size s) (rw length-drop (omega arith)))

  pub framed-laid : Bytes s → laid frame rs ≡ take (length_said s + length_size) s
  unfolding laid
  framed-laid b =
      let f = h.fits in
      let L = h.says in
      let e : length_said s + length_size ≡ length_size + suc (length rs * k) = omega arith in
      let j : joined rs ≡ take (length rs * k) (drop head_size s) = rw h.cut at (joined-pieces (length rs) k (drop head_size s)) in
      let v : take (suc (length rs * k)) (drop length_size s) ≡ frame.version ∷ joined rs = rw (here s length_size (omega arith), h.version, j) in
      rw (e, take-add length_size (suc (length rs * k)) s, v, ← L) (ap (λ (t : List ℕ). t ++ frame.version ∷ joined rs) (length_back s (omega arith) b))
