-- What an append answers, from what the check answers, and the buffer that it leaves. Over the format. Assumes nothing.
use mathlib.Core.Path.{◌≡◌, refl, sym, ap, ◌∙◌}
use mathlib.Core.Bool.{true, false, ◌&&◌}
use mathlib.Core.List.{List, [], ◌∷◌, ◌++◌, append_assoc}
use Prim.Native.Nat.{ℕ, ◌+◌, ◌-◌, ◌≤◌, ◌<◌}
use native.Mathlib.Omega.{arith}
use borrow.Author.Tests.{le-leb, lt-leb, le-ltb, lt-ltb}
use lib.Dec.{leb, ltb}
use lib.ListN.{set, length, take, drop}
use lib.Seq.{sets, sets-eq, length-sets, length-take-le, take-add, drop_at}
use Rattle.rules.specs.Words.{big_bytes}
use Rattle.rules.specs.Refusals.{Answer, Gives, Refused, RefusedAt, ◌then◌, demand, given, no_room, guessed_date}
use Rattle.rules.specs.Book.{Frame, Format, sound_by, length_size, head_size, length_said, check, place_after, taken_by, append_answer, appended, append_buffer, new_answer, new_buffer}
use Rattle.rules.proofs.OnWords.ByteLaws.{byte-count}

-- ---- the answer, from the count

pub append-by : {A : Type 0} (format : Format A) (s r : List ℕ) → append_answer format (Gives r) s ≡ (check format s then place_after format.frame s then taken_by format r)
unfolding append_answer
append-by format s r = refl

module _ (frame : Frame) (s : List ℕ) where
  pub full : (n : ℕ) → frame.most ≤ n → place_after frame s n ≡ Refused no_room
  full n h = rw (le-ltb n frame.most h)

  pub no-bytes-left : (n : ℕ) → n < frame.most → length s < length_said s + length_size + frame.size → place_after frame s n ≡ Refused no_room
  no-bytes-left n h g = rw (lt-ltb n frame.most h, lt-leb (length_said s + length_size + frame.size) (length s) g)

  pub room-left : (n : ℕ) → n < frame.most → length_said s + length_size + frame.size ≤ length s → place_after frame s n ≡ Gives n
  room-left n h g = rw (lt-ltb n frame.most h, le-leb (length_said s + length_size + frame.size) (length s) g)

-- ---- the buffer, as stores make it: the record after the book, then the length

pub stores-are : (frame : Frame) (r s : List ℕ) → length r ≡ frame.size → length_said s + length_size + frame.size ≤ length s →
    sets (sets s (length_said s + length_size) r) 0 (big_bytes length_size (length_said s + frame.size)) ≡ appended frame r s
unfolding appended
stores-are frame r s e h =
    let L = length_said s in
    let m = L + frame.size in
    let a = big_bytes length_size m in
    let l = sets s (L + length_size) r in
    let c : length a ≡ length_size = byte-count length_size m in
    let g : L + length_size + length r ≤ length s = omega arith in
    let f : length l ≡ length s = length-sets s (L + length_size) r in
    let body : take (L + length_size) s ≡ take length_size s ++ take L (drop length_size s) =
    (let w : L + length_size ≡ length_size + L = omega arith in rw (w, take-add length_size L s)) in
    let four : length (take length_size s) ≡ length_size = length-take-le length_size s (omega arith) in
    let d = drop (L + length_size + length r) s in
    let tail : drop length_size l ≡ take L (drop length_size s) ++ (r ++ d) =
    ap (drop length_size) (sets-eq r s (L + length_size) g ∙ ap (λ (t : List ℕ). t ++ r ++ d) body
    ∙ append_assoc (take length_size s ++ take L (drop length_size s)) r d
    ∙ append_assoc (take length_size s) (take L (drop length_size s)) (r ++ d))
    ∙ drop_at (take length_size s) (take L (drop length_size s) ++ (r ++ d)) length_size four in
    sets-eq a l 0 (omega arith)
    ∙ ap (λ (n : ℕ). a ++ drop n l) (let z : 0 + length a ≡ length_size = omega arith in z)
    ∙ ap (λ (t : List ℕ). a ++ t) tail
    ∙ sym (append_assoc a (take L (drop length_size s)) (r ++ d))
    ∙ sym (append_assoc (a ++ take L (drop length_size s)) r d)
    ∙ ap (λ (n : ℕ). a ++ take L (drop length_size s) ++ r ++ drop (L + length_size + n) s) e

-- ---- the buffer, by the answer

module _ {A : Type 0} (format : Format A) (r s : List ℕ) where
  -- what the answer x, and the list l, have to be
  abbrev pub Appends : Answer ℕ → List ℕ → Type 0
  Appends x l = (x ≡ append_answer format (Gives r) s) × (l ≡ append_buffer format (Gives r) s)

  kept : {x : Answer ℕ} → append_answer format (Gives r) s ≡ x → given x ≡ false → Appends x s
  unfolding append_buffer
  kept e f = (sym e, rw (e, f))

  -- by what the check answers
  by-check : {x : Answer ℕ} → check format s ≡ x → append_answer format (Gives r) s ≡ (x then place_after format.frame s then taken_by format r)
  by-check e = append-by format s r ∙ ap (λ (x : Answer ℕ). x then place_after format.frame s then taken_by format r) e

  pub append-refused : (n : ℕ) → check format s ≡ Refused n → Appends (Refused n) s
  append-refused n e = kept (by-check e) refl

  pub append-bad : (n place : ℕ) → check format s ≡ RefusedAt n place → Appends (RefusedAt n place) s
  append-bad n place e = kept (by-check e) refl

  module _ (n : ℕ) (e : check format s ≡ Gives n) where
    by_place : {x : Answer ℕ} → place_after format.frame s n ≡ x → append_answer format (Gives r) s ≡ (x then taken_by format r)
    by_place p = by-check e ∙ ap (λ (x : Answer ℕ). x then taken_by format r) p

    pub append-full : format.frame.most ≤ n → Appends (Refused no_room) s
    append-full h = kept (by_place (full format.frame s n h)) refl

    pub append-short : n < format.frame.most → length s < length_said s + length_size + format.frame.size → Appends (Refused no_room) s
    append-short h g = kept (by_place (no-bytes-left format.frame s n h g)) refl

    -- there is room, but the record is none of the format
    pub append-untaken : n < format.frame.most → length_said s + length_size + format.frame.size ≤ length s → sound_by format r ≡ false → Appends (Refused guessed_date) s
    append-untaken h g u = kept (by_place (room-left format.frame s n h g) ∙ rw u) refl

    -- the record is stored after the book, then the length
    pub append-writes : n < format.frame.most → length_said s + length_size + format.frame.size ≤ length s → sound_by format r ≡ true → length r ≡ format.frame.size →
        {at m : ℕ} → at ≡ length_said s + length_size → m ≡ length_said s + format.frame.size →
        {l l' : List ℕ} → l ≡ sets s at r → l' ≡ sets l 0 (big_bytes length_size m) → Appends (Gives n) l'
    unfolding append_buffer
    append-writes h g w z p q d d' =
        let a : append_answer format (Gives r) s ≡ Gives n = by_place (room-left format.frame s n h g) ∙ rw w in (sym a, rw (a, d', d, p, q) (stores-are format.frame r s z g))

-- ---- a new book, as stores make it

pub new-stores : (version : ℕ) (s : List ℕ) → head_size ≤ length s →
    sets (set s length_size version) 0 (big_bytes length_size 1) ≡ new_buffer version s
unfolding new_buffer new_answer big_bytes
new-stores version [] h = absurd (omega arith)
new-stores version (a ∷ []) h = absurd (omega arith)
new-stores version (a ∷ b ∷ []) h = absurd (omega arith)
new-stores version (a ∷ b ∷ c ∷ []) h = absurd (omega arith)
new-stores version (a ∷ b ∷ c ∷ d ∷ []) h = absurd (omega arith)
new-stores version (a ∷ b ∷ c ∷ d ∷ v ∷ s) h = rw (le-leb head_size (length (a ∷ b ∷ c ∷ d ∷ v ∷ s)) h)

pub new-kept : (version : ℕ) (s : List ℕ) → length s < head_size → (Refused no_room ≡ new_answer s) × (s ≡ new_buffer version s)
unfolding new_buffer new_answer
new-kept version s h = (rw (lt-leb head_size (length s) h), rw (lt-leb head_size (length s) h))

pub new-given : (s : List ℕ) → head_size ≤ length s → Gives 0 ≡ new_answer s
unfolding new_answer
new-given s h = rw (le-leb head_size (length s) h)
