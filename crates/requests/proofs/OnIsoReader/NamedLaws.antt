-- What the ISO reader gives is named by the text, and what it refuses, it refuses with 2. Assumes nothing.
use mathlib.Core.Path.{◌≡◌, refl}
use mathlib.Core.Bool.{Bool, true, false, cond}
use mathlib.Core.List.{List, [], ◌∷◌}
use Prim.Native.Nat.{ℕ, ◌-◌, ◌*◌, ◌%◌}
use native.Mathlib.Omega.{arith}
use borrow.Author.Tests.{eq-eqb}
use lib.Dec.{eqb}
use lib.IntN.{ℤ}
use lib.ListN.{drop}
use Rattle.rules.specs.Words.{same_bytes}
use Rattle.rules.specs.Refusals.{not_text}
use Rattle.rules.specs.Kinds.{Kind, kR, kD, kH, kU, kE, kV, Fields, with_hour, of_kind, settled_hour, made, settled}
use Rattle.rules.specs.Spelling.{iso}
use Rattle.rules.proofs.OnWords.SameLaws.{same_true}
use Rattle.rules.proofs.OnRefusals.OutcomeLaws.{Outcome, gives, outcome-if, outcome-then, outcome-next, outcome-digits, outcome-leading}
use Rattle.requests.specs.IsoReader.{even_hour, comes_back, Names, named_hour, iso_hour_after, iso_part, spelled_so, named}

-- ---- the hour that a text names is one that comes back

named-even : (k : Kind) (h : ℕ) → even_hour k (named_hour k h) ≡ true
named-even kR h = refl
named-even kD h = refl
named-even kH h = refl
named-even kU h = refl
named-even kE h = eq-eqb ((h - 8) * 2 % 2) 0 (omega arith)
named-even kV h = refl

none-even : (k : Kind) → even_hour k 0 ≡ true
none-even kR = refl
none-even kD = refl
none-even kH = refl
none-even kU = refl
none-even kE = refl
none-even kV = refl

-- also where E's 23 would become 22
settled-even : (k : Kind) (h : ℕ) → even_hour k h ≡ true → even_hour k (settled_hour k h) ≡ true
settled-even kR h e = refl
settled-even kD h e = refl
settled-even kH h e = refl
settled-even kU h e = refl
settled-even kE h e = by (eqb h 23)
  where
    by : (t : Bool) → eqb (cond t 22 h % 2) 0 ≡ true
    by true = refl
    by false = e
settled-even kV h e = refl

-- ---- each step of the reader, over what holds of the refusals' numbers

outcome-hour : {R : ℕ → Type 0} → R not_text → (k : Kind) (s : List ℕ) → Outcome R (λ h. even_hour k h ≡ true) (iso_hour_after k s)
unfolding iso_hour_after
outcome-hour two k [] = gives (none-even k)
outcome-hour two k (b ∷ s) = outcome-then (outcome-digits two s) (λ hour. gives (named-even k hour.value))

-- fields of the year y, with an hour that comes back
pub outcome-iso-part : {R : ℕ → Type 0} → R not_text → (k : Kind) (y : ℤ) (s : List ℕ) →
    Outcome R (λ f. (f.year ≡ y) × (even_hour k f.hour ≡ true)) (iso_part k y s)
unfolding iso_part
outcome-iso-part two k y s =
    outcome-then (outcome-digits two (drop 1 s)) (λ month. outcome-then (outcome-digits two (drop 1 month.rest))
    (λ day. outcome-next (outcome-hour two k day.rest) (λ hour e. gives (refl, e))))

outcome-kept : {R : ℕ → Type 0} → R not_text → (k : Kind) (f : Fields) → even_hour k f.hour ≡ true →
    Outcome R (λ g. comes_back k g ≡ true) (settled k not_text f)
unfolding settled made comes_back
outcome-kept two k f e =
    outcome-if (of_kind k (with_hour f (settled_hour k f.hour))) not_text two (λ p. gives (rw (p, settled-even k f.hour e)))

outcome-spelled : {R : ℕ → Type 0} → R not_text → (k : Kind) (s : List ℕ) (f : Fields) → comes_back k f ≡ true → Outcome R (Names k s) (spelled_so k s f)
unfolding spelled_so
outcome-spelled two k s f p = outcome-if (same_bytes s (iso k f)) not_text two (λ e. gives (p, same_true s (iso k f) e))

-- a date that the text names, or 2
pub outcome-named : {R : ℕ → Type 0} → R not_text → (k : Kind) (s : List ℕ) → Outcome R (Names k s) (named k s)
unfolding named
outcome-named two k s =
    outcome-then (outcome-leading two s) (λ r. outcome-next (outcome-iso-part two k r.value r.rest)
    (λ f p. outcome-next (outcome-kept two k f p.1) (outcome-spelled two k s)))
