-- Which refusals a line of `datelist` can have, by kind and way, exactly: a line that is read gives a date of its kind or one of these
-- refusals, and each of them is that of some line. Assumes nothing.
use mathlib.Core.Path.{◌≡◌, refl, sym, subst, ◌∙◌}
use mathlib.Core.Logic.{◌↔◌}
use mathlib.Core.Bool.{Bool, true, false, cond, ◌&&◌, ◌||◌, or-true}
use mathlib.Core.List.{List, [], ◌∷◌, ◌++◌}
use Prim.Native.Nat.{ℕ, suc, ◌<◌}
use native.Mathlib.Nat.{le_refl}
use native.Mathlib.Omega.{arith}
use borrow.Author.Tests.{eqb-true}
use lib.Dec.{T, eqb}
use lib.ListN.{length, replicate, length-replicate}
use Rattle.rules.specs.Words.{byte, bytes}
use Rattle.rules.specs.Refusals.{Answer, Gives, Refused, too_long, not_text, not_number, unreadable_line}
use Rattle.rules.specs.Kinds.{Kind, kR, kD, kH, kU, kE, kV, Fields, of_kind}
use Rattle.rules.specs.Numbers.{reads_numbers, guesses, number_fields, read_number, guess_number}
use Rattle.rules.specs.Text.{digits, after_digits, decimal_value, leading, shape_allowed, text_limit, read_text}
use Rattle.rules.specs.Listing.{Line, Way, by_text, by_number, by_guess, letter, kind_of_letter, way_of_letter, has_way, read_line, digits_as_number, line_number, date_by, refused_text, date_text, request_text, line_end, line_output}
use Rattle.rules.proofs.OnRefusals.OutcomeLaws.{Outcome, gives, refuses, Any, Dated, outcome-demand, outcome-if, outcome-then, outcome-cond, outcome-value, outcome-refusal, outcome-text, outcome-line, outcome-number, outcome-guess}
use Rattle.rules.proofs.OnKinds.CodeLaws.{outcome-kind, letter-back}
use Rattle.rules.proofs.OnText.LeadingLaws.{text-long, either_way}

-- ---- the refusals of a way, and of a kind

-- of a text 1 and 2; of a number 2, where it is none, and 3
abbrev pub refuses_by : Way → ℕ → Bool
refuses_by by_text n = eqb n too_long || eqb n not_text
refuses_by by_number n = eqb n not_text || eqb n not_number
refuses_by by_guess n = eqb n not_text || eqb n not_number

-- of a kind, in any of the ways that it has: 3 where it reads numbers outside text
abbrev pub refuses_of : Kind → ℕ → Bool
refuses_of k n = eqb n too_long || eqb n not_text || (reads_numbers k && eqb n not_number)

abbrev pub RefusedBy : Way → ℕ → Type 0
RefusedBy w n = refuses_by w n ≡ true

either : {A : Type 0} (s t : Bool) → (s ≡ true → A) → (t ≡ true → A) → s || t ≡ true → A
either true t f g e = f refl
either false t f g e = g e

clash : {t : Bool} {A : Type 0} → t ≡ true → t ≡ false → A
clash p q = absurd (subst T (sym p ∙ q) tt)

-- each of them has one digit
pub one-digit-by : (w : Way) (n : ℕ) → RefusedBy w n → n < 10
one-digit-by by_text n = either (eqb n too_long) (eqb n not_text) (λ e. omega (arith, eqb-true n too_long e)) (λ e. omega (arith, eqb-true n not_text e))
one-digit-by by_number n = either (eqb n not_text) (eqb n not_number) (λ e. omega (arith, eqb-true n not_text e)) (λ e. omega (arith, eqb-true n not_number e))
one-digit-by by_guess n = either (eqb n not_text) (eqb n not_number) (λ e. omega (arith, eqb-true n not_text e)) (λ e. omega (arith, eqb-true n not_number e))

-- ---- no other occurs

-- in a way that its kind has, a line gives a date of the kind or a refusal of the way
pub date-outcome : (w : Way) (k : Kind) (rest : List ℕ) → has_way k w ≡ true → Outcome (RefusedBy w) (Dated k) (date_by w k rest)
unfolding date_by
date-outcome by_text k rest has = outcome-text refl refl k rest
date-outcome by_number k rest has = outcome-then (outcome-line refl rest) (outcome-number refl k (clash has))
date-outcome by_guess k rest has = outcome-then (outcome-line refl rest) (outcome-guess refl k (clash has))

-- ---- each of them occurs

-- a text with a byte too many, an empty one, and a number whose hour is negative
abbrev pub refused_rest : ℕ → List ℕ
refused_rest n = cond (eqb n too_long) (replicate (suc text_limit) (byte "0")) (cond (eqb n not_text) [] (bytes "-1"))

one_more : (n b : ℕ) → n < length (replicate (suc n) b)
one_more n b = rw (length-replicate (suc n) b) (le_refl (suc n))

long-refused : (k : Kind) → date_by by_text k (refused_rest too_long) ≡ Refused too_long
unfolding date_by
long-refused k = text-long k (replicate (suc text_limit) (byte "0")) (one_more text_limit (byte "0"))

empty-refused : (w : Way) (k : Kind) → date_by w k [] ≡ Refused not_text
unfolding date_by read_text leading line_number
empty-refused by_text k = either_way (shape_allowed k [])
empty-refused by_number k = refl
empty-refused by_guess k = refl

number-refused : (k : Kind) → reads_numbers k ≡ true → date_by by_number k (bytes "-1") ≡ Refused not_number
unfolding date_by read_number number_fields line_number digits_as_number digits after_digits decimal_value
number-refused k e = rw e

guess-refused : (k : Kind) → guesses k ≡ true → date_by by_guess k (bytes "-1") ≡ Refused not_number
unfolding date_by guess_number number_fields line_number digits_as_number digits after_digits decimal_value
guess-refused k e = rw e

-- in each way that its kind has, each refusal of the way
pub refused-so : (w : Way) (k : Kind) (n : ℕ) → has_way k w ≡ true → RefusedBy w n → date_by w k (refused_rest n) ≡ Refused n
refused-so by_text k n has =
    either (eqb n too_long) (eqb n not_text)
    (λ e. rw (eqb-true n too_long e) (long-refused k)) (λ e. rw (eqb-true n not_text e) (empty-refused by_text k))
refused-so by_number k n has =
    either (eqb n not_text) (eqb n not_number)
    (λ e. rw (eqb-true n not_text e) (empty-refused by_number k)) (λ e. rw (eqb-true n not_number e) (number-refused k has))
refused-so by_guess k n has =
    either (eqb n not_text) (eqb n not_number)
    (λ e. rw (eqb-true n not_text e) (empty-refused by_guess k)) (λ e. rw (eqb-true n not_number e) (guess-refused k has))

-- ---- exactly

-- a rest that is refused so
pub record RefusedRest (w : Way) (k : Kind) (n : ℕ) : Type 0 where
  pub rest : List ℕ
  pub refused : date_by w k rest ≡ Refused n

pub way-refuses : (w : Way) (k : Kind) (n : ℕ) → has_way k w ≡ true → RefusedRest w k n ↔ (refuses_by w n ≡ true)
way-refuses w k n has =
    (λ r. outcome-refusal (date-outcome w k r.rest has) r.refused, λ e. record { rest = refused_rest n; refused = refused-so w k n has e })

-- a kind that guesses reads numbers
guesser : (k : Kind) → guesses k ≡ true → reads_numbers k ≡ true
guesser kR e = refl
guesser kD e = refl
guesser kH e = refl
guesser kU e = absurd (subst T (sym e) tt)
guesser kE e = refl
guesser kV e = refl

-- a way that the kind has, and a rest that is refused so
pub record RefusedLine (k : Kind) (n : ℕ) : Type 0 where
  pub way : Way
  pub has : has_way k way ≡ true
  pub by_way : RefusedRest way k n

of_number : (k : Kind) (n : ℕ) → reads_numbers k ≡ true → eqb n not_text || eqb n not_number ≡ true → refuses_of k n ≡ true
of_number k n reads =
    either (eqb n not_text) (eqb n not_number) (λ e. rw (e, or-true (eqb n too_long))) (λ e. rw (e, reads, or-true (eqb n too_long || eqb n not_text)))

of-way : (w : Way) (k : Kind) (n : ℕ) → has_way k w ≡ true → RefusedBy w n → refuses_of k n ≡ true
of-way by_text k n has e = rw e
of-way by_number k n has e = of_number k n has e
of-way by_guess k n has e = of_number k n (guesser k has) e

by_number_lem : (k : Kind) (n : ℕ) (t : Bool) → reads_numbers k ≡ t → t && eqb n not_number ≡ true → RefusedLine k n
by_number_lem k n true reads e =
    record { way = by_number; has = reads; by_way = (way-refuses by_number k n reads).1 (rw (e, or-true (eqb n not_text))) }
by_number_lem k n false reads e = absurd (subst T (sym e) tt)

-- 1 and 2 are refusals of every kind, 3 of each that reads numbers outside text, and no kind has another
pub kind-refuses : (k : Kind) (n : ℕ) → RefusedLine k n ↔ (refuses_of k n ≡ true)
kind-refuses k n = (
  λ r. of-way r.way k n r.has ((way-refuses r.way k n r.has).0 r.by_way),
  either (eqb n too_long || eqb n not_text) (reads_numbers k && eqb n not_number)
      (λ e. record { way = by_text; has = refl; by_way = (way-refuses by_text k n refl).1 e })
      (by_number_lem k n (reads_numbers k) refl),
)

-- ---- a whole line

outcome-way : {R : ℕ → Type 0} → R unreadable_line → (b : ℕ) → Outcome R Any (way_of_letter b)
unfolding way_of_letter
outcome-way eight b =
    outcome-cond (eqb b (byte "t")) (gives tt) (outcome-cond (eqb b (byte "b")) (gives tt) (outcome-cond (eqb b (byte "g")) (gives tt) (refuses eight)))

abbrev pub Asked : Line → Type 0
Asked l = has_way l.kind l.way ≡ true

-- a line is read, in a way that its kind has, or refused with 8
pub outcome-request : {R : ℕ → Type 0} → R unreadable_line → (line : List ℕ) → Outcome R Asked (read_line line)
unfolding read_line kind_of_letter
outcome-request eight [] = refuses eight
outcome-request eight (a ∷ []) = refuses eight
outcome-request eight (a ∷ b ∷ []) = refuses eight
outcome-request eight (a ∷ b ∷ c ∷ []) = refuses eight
outcome-request eight (a ∷ b ∷ c ∷ d ∷ rest) =
    outcome-demand (eqb b (byte " ") && eqb d (byte " ")) unreadable_line eight
    (outcome-then (outcome-kind letter unreadable_line a eight)
    (λ k. outcome-then (outcome-way eight c) (λ w. outcome-if (has_way k w) unreadable_line eight (λ e. gives e))))

pub has-way : (line : List ℕ) (l : Line) → read_line line ≡ Gives l → Asked l
has-way line l e = outcome-value (outcome-request {R = λ n. Unit {0}} tt line) e

-- what a line can print: a date after its kind's letter, a refusal of one of the kind's ways, or `? refused 8`
pub data Output : List ℕ → Type 0 where
  a-date : (k : Kind) (f : Fields) → of_kind k f ≡ true → Output (date_text k (Gives f) ++ line_end)
  a-refusal : (k : Kind) (w : Way) (n : ℕ) → has_way k w ≡ true → RefusedBy w n → Output (refused_text (letter k) n ++ line_end)
  unreadable : Output (refused_text (byte "?") unreadable_line ++ line_end)

date-output : (k : Kind) (w : Way) → has_way k w ≡ true → {a : Answer Fields} → Outcome (RefusedBy w) (Dated k) a → Output (date_text k a ++ line_end)
unfolding date_text
date-output k w has (gives {a = f} p) = a-date k f p
date-output k w has (refuses {n = n} r) = a-refusal k w n has r

request-output : {a : Answer Line} → Outcome (λ n. n ≡ unreadable_line) Asked a → Output (request_text a ++ line_end)
unfolding request_text
request-output (gives {a = l} has) = date-output l.kind l.way has (date-outcome l.way l.kind l.rest has)
request-output (refuses {n = n} e) = rw e unreadable

pub output-outcome : (line : List ℕ) → Output (line_output line)
unfolding line_output
output-outcome line = request-output (outcome-request refl line)

-- a line that asks for this kind and way, and is read so
abbrev pub way_letter : Way → ℕ
way_letter by_text = byte "t"
way_letter by_number = byte "b"
way_letter by_guess = byte "g"

abbrev pub asking : Kind → Way → List ℕ → List ℕ
asking k w rest = letter k ∷ byte " " ∷ way_letter w ∷ byte " " ∷ rest

pub asking-read : (k : Kind) (w : Way) (rest : List ℕ) → has_way k w ≡ true → read_line (asking k w rest) ≡ Gives (record { kind = k; way = w; rest = rest })
unfolding read_line way_of_letter
asking-read k by_text rest has = rw (letter-back k)
asking-read k by_number rest has = rw (letter-back k, has)
asking-read k by_guess rest has = rw (letter-back k, has)

-- each refusal of a kind's way is printed
pub refusal-printed : (k : Kind) (w : Way) (n : ℕ) → has_way k w ≡ true → RefusedBy w n
    → line_output (asking k w (refused_rest n)) ≡ refused_text (letter k) n ++ line_end
unfolding line_output request_text date_text
refusal-printed k w n has e = rw (asking-read k w (refused_rest n) has, refused-so w k n has e)
