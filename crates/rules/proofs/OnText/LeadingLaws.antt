-- What a text's length and its leading number decide: one over the limit is 1, and no other; after the number every text is read alike; a
-- value that does not fit 16 bits is no year, and one that does not fit 32 no number text. Assumes nothing.
use mathlib.Core.Path.{◌≡◌, refl}
use mathlib.Core.Logic.{◌↔◌}
use mathlib.Core.Bool.{Bool, true, false, and-false}
use mathlib.Core.List.{List, [], ◌∷◌}
use Prim.Native.Nat.{ℕ, ◌≤◌, ◌<◌}
use native.Mathlib.Omega.{arith}
use borrow.Author.Tests.{le-leb, lt-leb, leb-false}
use lib.Dec.{leb}
use lib.IntN.{ℤ}
use lib.ListN.{length}
use Rattle.rules.specs.Words.{fits16, fits32}
use Rattle.rules.specs.Refusals.{Answer, Gives, Refused, ◌then◌, demand, too_long, not_text}
use Rattle.rules.specs.Kinds.{Kind, kD, Fields, of_kind, made, settled}
use Rattle.rules.specs.Text.{Read, leading, reads_number_texts, number_text, shape_allowed, text_limit, text_fields, read_text}
use Rattle.rules.proofs.OnRefusals.OutcomeLaws.{Outcome, gives, refuses, outcome-refusal, outcome-part, within_limit, outcome-within}

-- ---- what follows the leading number

abbrev pub after_leading : Kind → Read ℤ → Answer Fields
after_leading k r = text_fields k r then λ f. settled k not_text f

-- fields of a year that is none are no date's
pub year-out : (k : Kind) {y : ℤ} {x : Answer Fields} → Outcome (λ n. n ≡ not_text) (λ f. f.year ≡ y) x → fits16 y ≡ false
    → (x then λ f. settled k not_text f) ≡ Refused not_text
unfolding settled made of_kind
year-out k (gives p) e = rw (p, e)
year-out k (refuses two) e = rw two

pub dotted-out : (k : Kind) (y : ℤ) (b : ℕ) (s : List ℕ) → fits16 y ≡ false → after_leading k (record { value = y; rest = b ∷ s }) ≡ Refused not_text
unfolding text_fields
dotted-out k y b s e = year-out k (outcome-part refl y (b ∷ s)) e

pub number-out : (k : Kind) (y : ℤ) → fits32 y ≡ false → after_leading k (record { value = y; rest = [] }) ≡ Refused not_text
unfolding text_fields number_text
number-out k y e = rw (e, and-false (reads_number_texts k))

-- ---- the whole text, where it is too long

pub text-long : (k : Kind) (s : List ℕ) → text_limit < length s → read_text k s ≡ Refused too_long
unfolding read_text
text-long k s h = rw (lt-leb (length s) text_limit h)

-- 1 exactly there
pub text-too-long : (k : Kind) (s : List ℕ) → (read_text k s ≡ Refused too_long) ↔ (text_limit < length s)
unfolding read_text
text-too-long k s = (by (leb (length s) text_limit) refl, text-long k s)
  where
    by : (t : Bool) → leb (length s) text_limit ≡ t → demand t too_long (within_limit k s) ≡ Refused too_long → text_limit < length s
    by true p e = let two = outcome-refusal (outcome-within {R = λ n. n ≡ not_text} refl k s) e in absurd (omega arith)
    by false p e = leb-false (length s) text_limit p

-- ---- and where it is not

-- 2 whether or not the shape is allowed
pub either_way : (t : Bool) → demand {A = Fields} t not_text (Refused not_text) ≡ Refused not_text
either_way true = refl
either_way false = refl

module _ (k : Kind) (s : List ℕ) (fits : length s ≤ text_limit) where
  pub by-leading : shape_allowed k s ≡ true → read_text k s ≡ (leading s then after_leading k)
  unfolding read_text
  by-leading shape = rw (le-leb (length s) text_limit fits, shape)

  out : {r : Read ℤ} → leading s ≡ Gives r → after_leading k r ≡ Refused not_text → read_text k s ≡ Refused not_text
  unfolding read_text
  out e none = rw (le-leb (length s) text_limit fits, e, none) (either_way (shape_allowed k s))

  -- #104: the "true decimal value deciding": a text whose year does not fit 16 bits, or whose number does not fit 32, is 2
  pub year-decides : {y : ℤ} {b : ℕ} {rest : List ℕ} → leading s ≡ Gives (record { value = y; rest = b ∷ rest }) → fits16 y ≡ false
      → read_text k s ≡ Refused not_text
  year-decides {y} {b} {rest} e far = out e (dotted-out k y b rest far)

  pub number-decides : {y : ℤ} → leading s ≡ Gives (record { value = y; rest = [] }) → fits32 y ≡ false → read_text k s ≡ Refused not_text
  number-decides {y} e far = out e (number-out k y far)

-- #104: "D still takes 12 at most": from 13 bytes to the limit a text is 2 for D
pub twelve-at-most : (s : List ℕ) → 12 < length s → length s ≤ text_limit → read_text kD s ≡ Refused not_text
unfolding read_text shape_allowed
twelve-at-most s long fits = rw (le-leb (length s) text_limit fits, lt-leb (length s) 12 long, and-false (leb 5 (length s)))
