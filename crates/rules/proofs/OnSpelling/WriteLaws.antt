-- What has been written at the front of a lent buffer, and how a step adds to it. One set of laws for every text. Assumes nothing.
use mathlib.Core.Path.{◌≡◌, refl, sym, ap, ◌∙◌}
use mathlib.Core.List.{List, [], ◌∷◌, ◌++◌, append_assoc, append-nil}
use Prim.Native.Nat.{ℕ, suc, ◌+◌, ◌-◌, ◌≤◌, ◌<◌}
use native.Mathlib.Omega.{arith}
use native.Mathlib.Nat.{le_refl, not-suc-le-zero}
use lib.ListN.{length, take, drop, set, length-append, length-drop, drop_of_length-le}
use lib.Seq.{drop-drop, set_at, take_at, drop_at, take_all, append_snoc}
use borrow.Rule.Slice.PartMut.{put_mid}
use borrow.Author.Tests.{le-leb, lt-leb}
use Rattle.rules.specs.Refusals.{Answer, Gives, Refused, buffer_short}
use Rattle.rules.specs.Spelling.{put_answer, put_buffer}
use Rattle.rules.proofs.Shared.Rests.{here}

-- ---- a lent tail, `&mut xs[m..]`: what the callee is given, and what comes back

pub tail-lent : (xs : List ℕ) (m : ℕ) → take (length xs - m) (drop m xs) ≡ drop m xs
tail-lent xs m = take_all (length xs - m) (drop m xs) (rw length-drop (le_refl _))

pub tail-back : (xs ys : List ℕ) (m : ℕ) → put_mid m (length xs - m) xs ys ≡ take m xs ++ ys
tail-back xs ys m =
    let none : drop (length xs - m) (drop m xs) ≡ [] = drop_of_length-le (drop m xs) {i = length xs - m} (rw length-drop (le_refl _)) in
    rw (none, append-nil)

-- a store before what was written in the tail from 1 on
set_front : (xs r : List ℕ) (b : ℕ) → 0 < length xs → set (take 1 xs ++ r) 0 b ≡ b ∷ r
set_front [] r b h = absurd (not-suc-le-zero h)
set_front (x ∷ xs) r b h = refl

-- a byte stored before a text that a callee wrote in the tail from 1 on
pub byte-tail : (xs u ys : List ℕ) (b : ℕ) → 0 < length xs → ys ≡ u ++ drop (length u) (take (length xs - 1) (drop 1 xs))
    → set (put_mid 1 (length xs - 1) xs ys) 0 b ≡ (b ∷ u) ++ drop (length (b ∷ u)) xs
byte-tail xs u ys b h e =
    let more : 1 + length u ≡ suc (length u) = omega arith in
    rw (tail-back xs ys 1, e, tail-lent xs 1, drop-drop (length u) 1 xs, more) (set_front xs _ b h)

-- ---- t, of n bytes, is written at the front of a buffer that held l₀, and nothing else is changed

pub record Wrote (t : List ℕ) (n : ℕ) (l₀ l : List ℕ) : Type 0 where
  pub is : l ≡ t ++ drop n l₀
  pub long : n ≡ length t
  pub room : n ≤ length l₀

-- a callee wrote t at the front
pub wrote : (t l₀ : List ℕ) {l : List ℕ} {n : ℕ} → n ≡ length t → n ≤ length l₀ → l ≡ t ++ drop (length t) l₀ → Wrote t n l₀ l
wrote t l₀ k r e = record { is = rw k e; long = k; room = r }

-- one byte more, by a store
pub wrote-byte : {t l₀ l : List ℕ} {n : ℕ} (b : ℕ) → Wrote t n l₀ l → n < length l₀ → Wrote (t ++ b ∷ []) (n + 1) l₀ (set l n b)
wrote-byte {t} {l₀} {l} {n} b w h = record {
  is = ap (λ (x : List ℕ). set x n b) (w.is ∙ ap (λ (x : List ℕ). t ++ x) (here l₀ n h)) ∙ set_at t _ _ b n (sym w.long) ∙ sym (append_snoc t b _);
  long = ap (λ (k : ℕ). k + 1) w.long ∙ sym (length-append t (b ∷ []));
  room = omega arith;
}

-- a text more, by a callee that was lent `&mut l[n..]` and left ys there
pub wrote-part : {t l₀ l ys : List ℕ} {n j : ℕ} (u : List ℕ) → Wrote t n l₀ l → j ≡ length u → n + j ≤ length l₀
    → ys ≡ u ++ drop (length u) (take (length l - n) (drop n l))
    → Wrote (t ++ u) (n + j) l₀ (put_mid n (length l - n) l ys)
wrote-part {t} {l₀} {l} {ys} {n} {j} u w k r e =
    let first : take n l ≡ t = ap (take n) w.is ∙ take_at t _ n (sym w.long) in
    let after : drop n l ≡ drop n l₀ = ap (drop n) w.is ∙ drop_at t _ n (sym w.long) in
    record {
      is = rw (tail-back l ys n, first, e, tail-lent l n, after, drop-drop, append_assoc, k);
      long = rw length-append (omega arith);
      room = r;
    }

pub wrote-length : {t l₀ l : List ℕ} {n : ℕ} → Wrote t n l₀ l → length l ≡ length l₀
wrote-length {t} {l₀} {l} {n} w =
    let e : length l ≡ length t + (length l₀ - n) = rw (w.is, length-append, length-drop) in
    let h = w.long in let r = w.room in omega arith

-- ---- a text that is written whole, or not at all

-- what is answered, what the buffer holds, and that the answer is within it
pub record Put (t l₀ : List ℕ) (answer : Answer ℕ) (l : List ℕ) : Type 0 where
  pub answered : answer ≡ put_answer (Gives t) l₀
  pub holds : l ≡ put_buffer (Gives t) l₀

pub wrote-whole : {t l₀ l : List ℕ} {n : ℕ} → Wrote t n l₀ l → Put t l₀ (Gives n) l
unfolding put_answer put_buffer
wrote-whole {t} {l₀} {l} {n} w =
    let h : length t ≤ length l₀ = let k = w.long in let r = w.room in omega arith in
    record { answered = rw (le-leb _ _ h, w.long); holds = rw (le-leb _ _ h) (rw w.long at w.is) }

-- the buffer is too short, and stays as it was
pub wrote-short : (t l₀ : List ℕ) → length l₀ < length t → Put t l₀ (Refused buffer_short) l₀
unfolding put_answer put_buffer
wrote-short t l₀ h = record { answered = rw (lt-leb _ _ h); holds = rw (lt-leb _ _ h) }

-- the text at the front, and the rest as it was
pub wrote-placed : {t l₀ l : List ℕ} {n : ℕ} → Wrote t n l₀ l → l ≡ t ++ drop (length t) l₀
wrote-placed w = rw w.long at w.is

-- a byte, and after it what a callee wrote in the tail from 1 on
pub wrote-byte-tail : (l₀ u : List ℕ) {ys : List ℕ} (b n : ℕ) → n ≡ length (b ∷ u) → n ≤ length l₀ → ys ≡ u ++ drop (length u) (take (length l₀ - 1) (drop 1 l₀))
    → Wrote (b ∷ u) n l₀ (set (put_mid 1 (length l₀ - 1) l₀ ys) 0 b)
wrote-byte-tail l₀ u b n k r e = wrote (b ∷ u) l₀ k r (byte-tail l₀ u _ b (omega arith) e)
