-- The lines from a place on, and what a pass over them has measured or written. Assumes nothing.
use mathlib.Core.Path.{◌≡◌, sym, ap, ◌∙◌}
use mathlib.Core.List.{List, [], ◌∷◌, ◌++◌, append_assoc}
use Prim.Native.Nat.{ℕ, suc, ◌+◌, ◌-◌, ◌≤◌, ◌<◌}
use native.Mathlib.Omega.{arith}
use borrow.Author.Tests.{le-leb}
use borrow.Rule.Slice.PartMut.{put_mid}
use lib.ListN.{length, take, drop, length-append, length-drop, take-append-drop}
use lib.Seq.{drop-drop, take_at, drop_at, length-take-le}
use Rattle.spans.specs.Bytes.{slice, index_of}
use Rattle.std.specs.Prelude.{Result, IsOk}
use Rattle.rules.specs.Refusals.{Gives, given}
use Rattle.refusals.specs.declared.Refusal.{Refusal}
use Rattle.refusals.proofs.RefusalLaws.{is-ok}
use Rattle.rules.specs.Spelling.{put_answer, put_buffer}
use Rattle.rules.specs.Listing.{line_output, lines, joined}
use Rattle.rules.proofs.Shared.Rests.{here, past, to_end}
use Rattle.rules.proofs.OnListing.LineLaws.{end_of, lines-first}
use Rattle.rules.proofs.OnSpelling.WriteLaws.{tail-lent, tail-back}
use Rattle.listing.specs.Answers.{listed_as, length_of}
use Rattle.listing.specs.Views.{printed}
use Rattle.formatter.proofs.Texts.{length-told, spelled-length}

-- ---- the first of the lines from a place on, which ends where the code finds byte 10

first_of : (x : List ℕ) {b : ℕ} {t : List ℕ} → x ≡ b ∷ t → lines x ≡ take (end_of x) x ∷ lines (drop (suc (end_of x)) x)
first_of x {b} {t} e = rw e (lines-first b t)

pub line_at : (s : List ℕ) (i j : ℕ) → i < length s → j ≡ i + index_of 10 (slice i (length s) s)
    → lines (drop i s) ≡ take (j - i) (drop i s) ∷ lines (drop (j + 1) s)
line_at s i j h e =
    let f = rw (to_end s i) at e in
    let k : end_of (drop i s) ≡ j - i = omega (arith, f) in
    let n : i + suc (j - i) ≡ j + 1 = omega (arith, f) in
    first_of (drop i s) (here s i h) ∙ rw (k, drop-drop, n)

-- what the lines print, when the first of them is known
pub printed-first : (x l y : List ℕ) → lines x ≡ l ∷ lines y → printed x ≡ line_output l ++ printed y
unfolding joined
printed-first x l y e = rw e

pub printed-none : (s : List ℕ) (i : ℕ) → length s ≤ i → printed (drop i s) ≡ []
unfolding joined lines
printed-none s i h = rw (past s i h)

-- ---- the measuring pass: what is measured, and what is left, make the whole

pub measured : (x l y : List ℕ) (total n whole : ℕ) → lines x ≡ l ∷ lines y → n ≡ length (line_output l)
    → total + length (printed x) ≡ whole → total + n + length (printed y) ≡ whole
measured x l y total n whole e k h =
    let p : length (printed x) ≡ length (line_output l) + length (printed y) = ap length (printed-first x l y e) ∙ length-append (line_output l) (printed y) in
    omega (arith, p, k, h)

-- ---- the writing pass: were the rest written from a place on, the buffer would hold the whole

abbrev pub Left : List ℕ → ℕ → List ℕ → List ℕ → Type 0
Left rest at l final = (take at l ++ (rest ++ drop (length rest) (drop at l)) ≡ final) × (at + length rest ≤ length l)

-- a text that the rest begins with is written from the place on
pub record Step (l ys text rest whole final : List ℕ) (at n : ℕ) : Type 0 where
  pub begins : whole ≡ text ++ rest
  pub long : n ≡ length text
  pub wrote : ys ≡ text ++ drop (length text) (take (length l - at) (drop at l))
  pub left : Left whole at l final

pub left-room : (l text rest : List ℕ) {whole final : List ℕ} (at : ℕ) → whole ≡ text ++ rest → Left whole at l final
    → length text ≤ length (take (length l - at) (drop at l))
left-room l text rest {whole} at w left =
    let e : length whole ≡ length text + length rest = ap length w ∙ length-append text rest in
    rw (tail-lent l at, length-drop) (omega (arith, e, left.1))

pub step_kept : {l ys text rest whole final : List ℕ} {at n : ℕ} → Step l ys text rest whole final at n
    → (length (put_mid at (length l - at) l ys) ≡ length l) × (at + n + length rest ≤ length l)
step_kept {l} {ys} {text} {rest} {whole} {final} {at} {n} s =
    let e : length whole ≡ length text + length rest = ap length s.begins ∙ length-append text rest in
    let room : at ≤ length l = omega (arith, s.left.1) in
    let is : length (put_mid at (length l - at) l ys) ≡ at + (length text + (length l - at - length text)) =
    rw (tail-back l ys at, s.wrote, tail-lent l at, length-append, length-take-le at l room, length-append, length-drop, length-drop) in
    (omega (arith, e, is, s.left.1), omega (arith, e, s.long, s.left.1))

pub left_step : {l ys text rest whole final : List ℕ} {at n : ℕ} → Step l ys text rest whole final at n
    → Left rest (at + n) (put_mid at (length l - at) l ys) final
left_step {l} {ys} {text} {rest} {whole} {final} {at} {n} s =
    let kept = step_kept s in
    let room : at ≤ length l = omega (arith, s.left.1) in
    let is : put_mid at (length l - at) l ys ≡ (take at l ++ text) ++ drop n (drop at l) = rw (tail-back l ys at, s.wrote, tail-lent l at, append_assoc, s.long) in
    let long : length (take at l ++ text) ≡ at + n = rw (length-append, length-take-le at l room, s.long) in
    let first : take (at + n) (put_mid at (length l - at) l ys) ≡ take at l ++ text = ap (take (at + n)) is ∙ take_at (take at l ++ text) (drop n (drop at l)) (at + n) long in
    let after : drop (at + n) (put_mid at (length l - at) l ys) ≡ drop n (drop at l) = ap (drop (at + n)) is ∙ drop_at (take at l ++ text) (drop n (drop at l)) (at + n) long in
    let same : n + length rest ≡ length (text ++ rest) = rw (s.long, length-append) in
    let split = append_assoc text rest (drop (length (text ++ rest)) (drop at l)) in
    (rw (first, after, drop-drop (length rest) n (drop at l), same, append_assoc (take at l) text, ← split) (rw s.begins at s.left.0), omega (arith, kept))

pub left-none : (l final : List ℕ) {rest : List ℕ} (at : ℕ) → rest ≡ [] → Left rest at l final → l ≡ final
left-none l final at e left = sym (take-append-drop at l) ∙ (rw e at left.0)

-- ---- a text that is written whole, since there is room

pub record Whole (t l₀ : List ℕ) (r : Result ℕ Refusal) (l : List ℕ) : Type 0 where
  pub is : IsOk r
  pub answered : length_of r ≡ length t
  pub holds : l ≡ t ++ drop (length t) l₀

pub whole : (t l₀ : List ℕ) {l : List ℕ} (r : Result ℕ Refusal) → length t ≤ length l₀
    → listed_as r ≡ put_answer (Gives t) l₀ → l ≡ put_buffer (Gives t) l₀ → Whole t l₀ r l
unfolding put_answer put_buffer
whole t l₀ r h a b =
    let test = le-leb _ _ h in
    let told = rw test at a in
    record { is = is-ok (λ n. n) r (ap given told); answered = length-told listed_as length_of spelled-length r _ told; holds = rw test at b }
