-- The bytes of the word of some bytes are those bytes; the first bytes of a slice are those at its places. Assumes nothing.
use Rattle.std.proofs.Common.{◌≡◌, ℕ, zero, suc, ◌+◌, ◌*◌, ◌/◌, ◌%◌, ◌<◌, ◌≤◌, List, [], ◌∷◌, length, get_or, take, drop, refl, sym, ap, ◌∙◌, ap₂, add-one, arith, drop-cons}
use lib.Seq.{take_all}
use mir.Syntax.{w64}
use Rattle.std.specs.Int.{from_le_bytes}
use Rattle.util.specs.Word.{bytes_of}

-- the word of bytes, the first lowest
abbrev pub word_of : List ℕ → ℕ
word_of [] = 0
word_of (b ∷ bs) = b + word_of bs * 256

-- each a byte
abbrev pub Bytes : List ℕ → Type 0
Bytes [] = Unit
Bytes (b ∷ bs) = (b < 256) × Bytes bs

pub bytes_word : (bs : List ℕ) → Bytes bs → bytes_of (length bs) (word_of bs) ≡ bs
unfolding bytes_of
bytes_word [] h = refl
bytes_word (b ∷ bs) h =
    let l = h.0 in
    let low : (b + word_of bs * 256) % 256 ≡ b = omega arith in
    let high : (b + word_of bs * 256) / 256 ≡ word_of bs = omega arith in
    ap₂ ◌∷◌ low (ap (bytes_of (length bs)) high ∙ bytes_word bs h.1)

-- the n elements of s from i on, one by one
abbrev pub listed : ℕ → List ℕ → ℕ → List ℕ
listed zero s i = []
listed (suc n) s i = get_or s i 0 ∷ listed n s (i + 1)

pub listed-is : (n : ℕ) (s : List ℕ) (i : ℕ) → i + n ≤ length s → take n (drop i s) ≡ listed n s i
listed-is zero s i h = refl
listed-is (suc n) s i h =
    let l : i < length s = omega arith in
    rw (drop-cons s i 0) (ap (get_or s i 0 ∷◌) (rw (← (add-one i)) (listed-is n s (i + 1) (omega arith))))

-- the bytes of the word that the library makes of eight
pub bytes-back : (bs : List ℕ) (n : ℕ) → length bs ≡ 8 → ((i : ℕ) → get_or bs i 0 < 256) → n ≡ from_le_bytes w64 bs → bytes_of 8 n ≡ bs
bytes-back bs n l f e =
    let sum : n ≡ word_of (listed 8 bs 0) = omega arith in
    ap (bytes_of 8) sum ∙ bytes_word (listed 8 bs 0) (f 0, (f 1, (f 2, (f 3, (f 4, (f 5, (f 6, (f 7, tt))))))))
    ∙ sym (listed-is 8 bs 0 (omega arith)) ∙ take_all 8 bs (omega arith)
