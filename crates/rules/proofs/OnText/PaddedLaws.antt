-- #104 of document 02, "years with dozens of leading zeros": zeros before a text's leading number, after its sign, leave the number, what
-- follows it and so the answer as they were, up to the text's limit. Assumes nothing.
use mathlib.Core.Path.{◌≡◌, refl, sym, ap, subst, ◌∙◌}
use mathlib.Core.Bool.{Bool, true, false, cond, ◌||◌}
use mathlib.Core.List.{List, [], ◌∷◌, ◌++◌}
use Prim.Native.Nat.{ℕ, zero, suc, ◌≤◌}
use native.Mathlib.Omega.{arith}
use borrow.Author.Tests.{le-leb, eqb-true}
use lib.Dec.{T, eqb}
use lib.IntN.{pos}
use lib.ListN.{length, replicate, length-append}
use Rattle.rules.specs.Words.{minus, byte}
use Rattle.rules.specs.Refusals.{Gives, given}
use Rattle.rules.specs.Kinds.{Kind}
use Rattle.rules.specs.Text.{Read, is_digit, digits, after_digits, natural, signed, leading, shape_allowed, text_limit, read_text}
use Rattle.rules.proofs.OnSpelling.DigitLaws.{no_sign}
use Rattle.rules.proofs.OnSpelling.FilledLaws.{zeros-value}

abbrev pub zeros : ℕ → List ℕ
zeros n = replicate n (byte "0")

abbrev pub is_sign : ℕ → Bool
is_sign b = eqb b (byte "-") || eqb b (byte "+")

-- a text with n zeros more before its number, after the sign where it has one
unfoldable pub padded : ℕ → List ℕ → List ℕ
padded n [] = zeros n
padded n (b ∷ s) = cond (is_sign b) (b ∷ (zeros n ++ s)) (zeros n ++ b ∷ s)

-- ---- the digits at the front

digits-padded : (n : ℕ) (s : List ℕ) → digits (zeros n ++ s) ≡ zeros n ++ digits s
unfolding digits
digits-padded zero s = refl
digits-padded (suc n) s = ap (λ (t : List ℕ). byte "0" ∷ t) (digits-padded n s)

after-padded : (n : ℕ) (s : List ℕ) → after_digits (zeros n ++ s) ≡ after_digits s
unfolding after_digits
after-padded zero s = refl
after-padded (suc n) s = after-padded n s

natural-padded : (n : ℕ) (s : List ℕ) → natural (zeros n ++ s) ≡ natural s
natural-padded n s = rw (digits-padded n s, after-padded n s, zeros-value n (digits s))

-- ---- the leading number, of a text that has one

first-digit : (b : ℕ) (s : List ℕ) → is_digit b ≡ true → leading (b ∷ s) ≡ Gives (signed pos (natural (b ∷ s)))
unfolding leading
first-digit b s d = rw (no_sign b (byte "-") d (omega arith), no_sign b (byte "+") d (omega arith), d)

digit-padded : (n b : ℕ) (s : List ℕ) → is_digit b ≡ true → leading (zeros n ++ b ∷ s) ≡ leading (b ∷ s)
digit-padded zero b s d = refl
digit-padded (suc n) b s d =
    first-digit (byte "0") (zeros n ++ b ∷ s) refl
    ∙ ap (λ (r : Read ℕ). Gives (signed pos r)) (natural-padded (suc n) (b ∷ s))
    ∙ sym (first-digit b s d)

pub leading-padded : (n : ℕ) (s : List ℕ) → given (leading s) ≡ true → leading (padded n s) ≡ leading s
unfolding leading padded
leading-padded n [] led = absurd (subst T (sym led) tt)
leading-padded n (b ∷ s) led = by (eqb b (byte "-")) (eqb b (byte "+")) (is_digit b) refl refl refl
  where
    by : (m p digit : Bool) → eqb b (byte "-") ≡ m → eqb b (byte "+") ≡ p → is_digit b ≡ digit
        → leading (padded n (b ∷ s)) ≡ leading (b ∷ s)
    by true p digit e f d = rw (eqb-true b (byte "-") e) (ap (λ (r : Read ℕ). Gives (signed minus r)) (natural-padded n s))
    by false true digit e f d = rw (eqb-true b (byte "+") f) (ap (λ (r : Read ℕ). Gives (signed pos r)) (natural-padded n s))
    by false false true e f d = ap leading before ∙ digit-padded n b s d
      where
        before : padded n (b ∷ s) ≡ zeros n ++ b ∷ s
        before = rw (e, f)
    by false false false e f d = absurd (subst T (sym (rw (e, f, d) at led)) tt)

-- ---- the whole text

longer : (n : ℕ) (s : List ℕ) → length s ≤ length (padded n s)
unfolding padded
longer n [] = omega arith
longer n (b ∷ s) = by (is_sign b)
  where
    by : (t : Bool) → length (b ∷ s) ≤ length (cond t (b ∷ (zeros n ++ s)) (zeros n ++ b ∷ s))
    by true = rw (length-append (zeros n) s) (omega arith)
    by false = rw (length-append (zeros n) (b ∷ s)) (omega arith)

-- Of a kind but D every shape is allowed, with the zeros and without.
pub padded-read : (k : Kind) (n : ℕ) (s : List ℕ) → given (leading s) ≡ true → length (padded n s) ≤ text_limit
    → shape_allowed k (padded n s) ≡ shape_allowed k s → read_text k (padded n s) ≡ read_text k s
unfolding read_text
padded-read k n s led fits shape =
    let l = longer n s in
    rw (le-leb (length (padded n s)) text_limit fits, le-leb (length s) text_limit (omega arith), shape, leading-padded n s led)
