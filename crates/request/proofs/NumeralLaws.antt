-- A line's number is a leading number of few bytes, after which nothing follows, and which fits. Assumes nothing.
use mathlib.Core.Path.{◌≡◌, refl, sym, ap, subst}
use mathlib.Core.Bool.{Bool, true, false, cond, ◌&&◌}
use mathlib.Core.List.{List, [], ◌∷◌}
use Prim.Native.Nat.{ℕ, suc, ◌-◌}
use native.Mathlib.Omega.{arith}
use lib.Dec.{T, leb, eqb}
use lib.IntN.{ℤ, pos, nat_abs}
use lib.ListN.{length}
use lib.Signed.{le_z}
use borrow.Author.Tests.{le-leb, eqb-true, ne_eqb}
use mir.Syntax.{w32}
use mir.Val.{SFits}
use Rattle.std.specs.Prelude.{Result, Ok, Err, OkIff}
use Rattle.std.specs.Result.{result_ok}
use Rattle.sign.proofs.Laws.{le-true, one_side, abs_is}
use Rattle.rules.specs.Words.{within, minus, fits32}
use Rattle.rules.specs.Refusals.{Gives, Refused, ◌then◌, demand, not_text}
use Rattle.rules.specs.Text.{is_digit, digits, after_digits, decimal_value, natural, signed, at_end, leading}
use Rattle.rules.specs.Listing.{digits_as_number, line_number}
use Rattle.rules.proofs.OnKinds.KindLaws.{left, right}
use Rattle.scalar.specs.Number.{most63, leading_number}
use Rattle.reading.proofs.Laws.{held32, not-held32}
use Rattle.request.specs.Views.{numeral_as}
use Rattle.request.specs.Numerals.{few_digits, whole, whole_read}

-- ---- digits to the end

-- where nothing follows the digits, they are the text
all_digits : (s : List ℕ) → at_end (after_digits s) ≡ true → digits s ≡ s
unfolding digits after_digits
all_digits [] e = refl
all_digits (b ∷ s) e = split (is_digit b) e (all_digits s)
  where
    split : (t : Bool) → at_end (cond t (after_digits s) (b ∷ s)) ≡ true → (at_end (after_digits s) ≡ true → digits s ≡ s)
        → cond t (b ∷ digits s) [] ≡ b ∷ s
    split true e all = ap (λ (r : List ℕ). b ∷ r) (all e)
    split false e all = absurd (subst T (sym e) tt)

-- 32 bits are within 63
fits-63 : (z : ℤ) → fits32 z ≡ true → leb (nat_abs z) most63 ≡ true
fits-63 z e =
    let a = le-true (minus 2147483648) z (left (le_z (minus 2147483648) z) (le_z z (pos 2147483647)) e) in
    let b = le-true z (pos 2147483647) (right (le_z (minus 2147483648) z) (le_z z (pos 2147483647)) e) in
    le-leb (nat_abs z) most63 (rw (abs_is z) (omega (arith, one_side z)))

-- the tests of a number at once, or one after the other: w and v are the same where nothing follows, and what fits f fits g
in-turn : (w v e f g : Bool) (z : ℤ) (r : List ℕ) → at_end r ≡ e → fits32 z ≡ f → (e ≡ true → w ≡ v) → (f ≡ true → g ≡ true) →
    demand (w && e && f) not_text (Gives z) ≡ (demand v not_text (demand g not_text (Gives (record { value = z; rest = r })) then whole_read))
unfolding whole
in-turn w true true true g z r a b p q = rw (p refl, q refl, a, b)
in-turn w false true true g z r a b p q = rw (p refl)
in-turn w true true false true z r a b p q = rw (p refl, a, b)
in-turn w true true false false z r a b p q = rw (p refl)
in-turn w false true false g z r a b p q = rw (p refl)
in-turn true true false f true z r a b p q = rw a
in-turn true true false f false z r a b p q = refl
in-turn true false false f g z r a b p q = refl
in-turn false true false f true z r a b p q = rw a
in-turn false true false f false z r a b p q = refl
in-turn false false false f g z r a b p q = refl

sized : (sign : ℕ → ℤ) (s : List ℕ) → digits_as_number sign s
    ≡ demand (within 1 10 (length s)) not_text
    (demand (leb (nat_abs (sign (decimal_value (digits s)))) most63) not_text (Gives (signed sign (natural s))) then whole_read)
unfolding digits_as_number
sized sign s =
    let z = sign (decimal_value (digits s)) in
    in-turn (within 1 10 (length (digits s))) (within 1 10 (length s)) (at_end (after_digits s)) (fits32 z) (leb (nat_abs z) most63) z (after_digits s)
    refl refl (λ e. ap (λ (t : List ℕ). within 1 10 (length t)) (all_digits s e)) (fits-63 z)

-- ---- by the first byte

no-digits : (sign : ℕ → ℤ) (b : ℕ) (s : List ℕ) → is_digit b ≡ false → digits_as_number sign (b ∷ s) ≡ Refused not_text
unfolding digits_as_number digits
no-digits sign b s e = rw e

refused-anyway : (t : Bool) → demand t not_text (Refused not_text then whole_read) ≡ Refused not_text
refused-anyway true = refl
refused-anyway false = refl

abbrev Read-by : List ℕ → Type 0
Read-by t = line_number t ≡ demand (few_digits t) not_text (leading_number t then whole_read)

minus-first : (b : ℕ) (s : List ℕ) → eqb b 45 ≡ true → Read-by (b ∷ s)
unfolding line_number few_digits leading_number leading
minus-first b s e =
    let n = eqb-true b 45 e in
    rw (e, ne_eqb b 43 (λ h. omega arith)) (sized minus s)

plain-first : (b : ℕ) (s : List ℕ) → eqb b 45 ≡ false → eqb b 43 ≡ false → is_digit b ≡ true → Read-by (b ∷ s)
unfolding line_number few_digits leading_number leading
plain-first b s e f d = rw (e, f, d) (sized pos (b ∷ s))

none_first : (b : ℕ) (s : List ℕ) → eqb b 45 ≡ false → eqb b 43 ≡ false → is_digit b ≡ false → Read-by (b ∷ s)
unfolding line_number few_digits leading_number leading
none_first b s e f d = rw (e, f, d, no-digits pos b s d) (sym (refused-anyway (within 1 10 (suc (length s)))))

plus-first : (b : ℕ) (s : List ℕ) → eqb b 45 ≡ false → eqb b 43 ≡ true → Read-by (b ∷ s)
unfolding line_number few_digits
plus-first b s e f =
    let n = eqb-true b 43 f in
    rw (e, f) (no-digits pos b s (rw n refl))

by_first : (b : ℕ) (s : List ℕ) (t u d : Bool) → eqb b 45 ≡ t → eqb b 43 ≡ u → is_digit b ≡ d → Read-by (b ∷ s)
by_first b s true u d e f g = minus-first b s e
by_first b s false true d e f g = plus-first b s e f
by_first b s false false true e f g = plain-first b s e f g
by_first b s false false false e f g = none_first b s e f g

pub line-number : (t : List ℕ) → Read-by t
unfolding line_number few_digits
line-number [] = refl
line-number (b ∷ s) = by_first b s (eqb b 45) (eqb b 43) (is_digit b) refl refl refl

-- ---- how many bytes there are

-- ---- whether it fits

pub whole-told : {E : Type 0} (y : ℤ) (r : Result ℤ E) → OkIff r (SFits w32 y) y → numeral_as (result_ok r) ≡ whole y
unfolding whole
whole-told {E = E} y (Ok n) told = rw (held32 {E = E} y (Ok n) told refl).0 (ap Gives told.1)
whole-told {E = E} y (Err e) told = rw (not-held32 {E = E} y (Err e) told refl)
