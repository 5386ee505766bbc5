-- What a text, a number and a line's number can be answered: a value of which something holds, or a refusal. Each law is over what
-- holds of the refusals' numbers, and says which numbers that must be. Assumes nothing.
use mathlib.Core.Path.{◌≡◌, refl, subst}
use mathlib.Core.Bool.{Bool, true, false, cond, not, ◌&&◌}
use mathlib.Core.List.{List, [], ◌∷◌}
use Prim.Native.Nat.{ℕ, ◌+◌, ◌*◌, ◌≤◌, ◌<◌}
use native.Mathlib.Omega.{arith}
use lib.Dec.{T, leb, eqb}
use lib.IntN.{ℤ, pos}
use lib.ListN.{length}
use Rattle.rules.specs.Words.{within, minus, fits32, byte}
use Rattle.rules.specs.Refusals.{Answer, Gives, Refused, ◌then◌, demand, given, not_text, not_number, not_of_kind, too_long}
use Rattle.rules.specs.Kinds.{Kind, Fields, with_hour, of_kind, settled_hour, made, settled}
use Rattle.rules.specs.Numbers.{decoded, decoded_hour, guessed, guesses, guess_number, has_fields, number_fields, reads_numbers, read_number}
use Rattle.rules.specs.Text.{Read, is_digit, digit_value, second_digit, digits, after_digits, decimal_value, not_zero_first, at_end, reads_number_texts, after_dot, one_or_two, hour_after, dotted_part, number_text, shape_allowed, leading, text_limit, text_fields, read_text}
use Rattle.rules.specs.Listing.{digits_as_number, line_number}
use Rattle.rules.proofs.OnKinds.KindLaws.{high}

-- a value of which P holds, or a refusal of whose number R holds
pub data Outcome {A : Type 0} (R : ℕ → Type 0) (P : A → Type 0) : Answer A → Type 0 where
  gives : {a : A} → P a → Outcome R P (Gives a)
  refuses : {n : ℕ} → R n → Outcome R P (Refused n)

-- any value
abbrev pub Any : {A : Type 0} → A → Type 0
Any a = Unit {0}

pub outcome-demand : {A : Type 0} {R : ℕ → Type 0} {P : A → Type 0} (t : Bool) (n : ℕ) {x : Answer A} → R n → Outcome R P x → Outcome R P (demand t n x)
outcome-demand true n h o = o
outcome-demand false n h o = refuses h

-- where the value may use the test, and where the refusal may
pub outcome-if : {A : Type 0} {R : ℕ → Type 0} {P : A → Type 0} (t : Bool) (n : ℕ) {x : Answer A} → R n → (t ≡ true → Outcome R P x) → Outcome R P (demand t n x)
outcome-if true n h o = o refl
outcome-if false n h o = refuses h

pub outcome-unless : {A : Type 0} {R : ℕ → Type 0} {P : A → Type 0} (t : Bool) (n : ℕ) {x : Answer A} → (t ≡ false → R n) → Outcome R P x → Outcome R P (demand t n x)
outcome-unless true n h o = o
outcome-unless false n h o = refuses (h refl)

pub outcome-then : {A B : Type 0} {R : ℕ → Type 0} {P : A → Type 0} {Q : B → Type 0} {x : Answer A} {next : A → Answer B}
    → Outcome R P x → ((a : A) → Outcome R Q (next a)) → Outcome R Q (x then next)
outcome-then (gives p) h = h _
outcome-then (refuses r) h = refuses r

-- where what follows may use what holds of the value
pub outcome-next : {A B : Type 0} {R : ℕ → Type 0} {P : A → Type 0} {Q : B → Type 0} {x : Answer A} {next : A → Answer B}
    → Outcome R P x → ((a : A) → P a → Outcome R Q (next a)) → Outcome R Q (x then next)
outcome-next (gives p) h = h _ p
outcome-next (refuses r) h = refuses r

pub outcome-cond : {A : Type 0} {R : ℕ → Type 0} {P : A → Type 0} (t : Bool) {x y : Answer A} → Outcome R P x → Outcome R P y → Outcome R P (cond t x y)
outcome-cond true p q = p
outcome-cond false p q = q

-- the value where the test holds, which may use it, and the other where it does not
pub outcome-when : {A : Type 0} {R : ℕ → Type 0} {P : A → Type 0} (t : Bool) {x y : Answer A} → (t ≡ true → Outcome R P x) → Outcome R P y → Outcome R P (cond t x y)
outcome-when true p q = p refl
outcome-when false p q = q

-- what follows of the value
pub outcome-so : {A : Type 0} {R : ℕ → Type 0} {P Q : A → Type 0} {x : Answer A} → ((a : A) → P a → Q a) → Outcome R P x → Outcome R Q x
outcome-so h (gives p) = gives (h _ p)
outcome-so h (refuses r) = refuses r

-- what holds of a value that is given, and of a refusal's number
pub outcome-value : {A : Type 0} {R : ℕ → Type 0} {P : A → Type 0} {x : Answer A} {a : A} → Outcome R P x → x ≡ Gives a → P a
outcome-value {P = P} {a = b} (gives {a = a} p) e = let q : a ≡ b = cc in subst P q p
outcome-value (refuses {n = n} r) e = absurd (subst (λ y. T (not (given y))) e tt)

pub outcome-refusal : {A : Type 0} {R : ℕ → Type 0} {P : A → Type 0} {x : Answer A} {n : ℕ} → Outcome R P x → x ≡ Refused n → R n
outcome-refusal (gives p) e = absurd (subst (λ y. T (given y)) e tt)
outcome-refusal {R = R} {n = n} (refuses {n = m} r) e = let q : m ≡ n = cc in subst R q r

-- ---- the dotted part, whose readers refuse with 2 alone

pub outcome-dot : {R : ℕ → Type 0} → R not_text → (s : List ℕ) → Outcome R Any (after_dot s)
unfolding after_dot
outcome-dot two [] = refuses two
outcome-dot two (b ∷ s) = outcome-demand (eqb b (byte ".")) not_text two (gives tt)

digit-small : (b : ℕ) → is_digit b ≡ true → digit_value b ≤ 9
digit-small b e = omega (arith, high (byte "0") (byte "9") b e)

second-small : (v : ℕ) (s : List ℕ) → v ≤ 9 → (second_digit v s).value < 100
unfolding second_digit
second-small v [] h = omega arith
second-small v (b ∷ s) h = by (is_digit b) refl
  where
    by : (t : Bool) → is_digit b ≡ t → (cond {A = Read ℕ} t (record { value = v * 10 + digit_value b; rest = s }) (record { value = v; rest = b ∷ s })).value < 100
    by true e = omega (arith, digit-small b e)
    by false e = omega arith

-- a number below 100
pub outcome-digits : {R : ℕ → Type 0} → R not_text → (s : List ℕ) → Outcome R (λ r. r.value < 100) (one_or_two s)
unfolding one_or_two
outcome-digits two [] = refuses two
outcome-digits two (b ∷ s) = outcome-if (is_digit b) not_text two (λ e. gives (second-small (digit_value b) s (digit-small b e)))

pub outcome-hour : {R : ℕ → Type 0} → R not_text → (s : List ℕ) → Outcome R Any (hour_after s)
unfolding hour_after
outcome-hour two [] = gives tt
outcome-hour two (b ∷ s) =
    outcome-then (outcome-dot two (b ∷ s))
    (λ h. outcome-demand (not_zero_first h) not_text two (outcome-then (outcome-digits two h) (λ hour. outcome-demand (at_end hour.rest) not_text two (gives tt))))

-- ---- dates

abbrev pub Dated : Kind → Fields → Type 0
Dated k f = of_kind k f ≡ true

pub outcome-made : {R : ℕ → Type 0} (k : Kind) (n : ℕ) (f : Fields) → R n → Outcome R (Dated k) (made k n f)
unfolding made
outcome-made k n f h = outcome-if (of_kind k f) n h (λ e. gives e)

pub outcome-settled : {R : ℕ → Type 0} (k : Kind) (n : ℕ) (f : Fields) → R n → Outcome R (Dated k) (settled k n f)
unfolding settled
outcome-settled k n f h = outcome-made k n (with_hour f (settled_hour k f.hour)) h

-- ---- numbers

pub outcome-fields : {R : ℕ → Type 0} (n : ℕ) (s : ℤ) → R n → Outcome R Any (number_fields n s)
unfolding number_fields
outcome-fields n s h = outcome-demand (has_fields s) n h (gives tt)

pub outcome-decoded : {R : ℕ → Type 0} → R not_number → (k : Kind) (f : Fields) → Outcome R (Dated k) (decoded k f)
unfolding decoded
outcome-decoded three k f = outcome-settled k not_number (with_hour f (decoded_hour k f.hour)) three

-- 4 only where the kind reads none
pub outcome-number : {R : ℕ → Type 0} → R not_number → (k : Kind) → (reads_numbers k ≡ false → R not_of_kind) → (s : ℤ) → Outcome R (Dated k) (read_number k s)
unfolding read_number
outcome-number three k four s = outcome-unless (reads_numbers k) not_of_kind four (outcome-then (outcome-fields not_number s three) (outcome-decoded three k))

pub outcome-guess : {R : ℕ → Type 0} → R not_number → (k : Kind) → (guesses k ≡ false → R not_of_kind) → (s : ℤ) → Outcome R (Dated k) (guess_number k s)
unfolding guess_number
outcome-guess three k four s =
    outcome-unless (guesses k) not_of_kind four
    (outcome-then (outcome-fields not_number s three) (λ f. outcome-demand (guessed k f) not_number three (outcome-decoded three k f)))

-- ---- texts, whose readers refuse with 1 and 2 alone

-- fields of the year y
pub outcome-part : {R : ℕ → Type 0} → R not_text → (y : ℤ) (s : List ℕ) → Outcome R (λ f. f.year ≡ y) (dotted_part y s)
unfolding dotted_part
outcome-part two y s =
    outcome-then (outcome-dot two s) (λ m. outcome-then (outcome-digits two m)
    (λ month. outcome-then (outcome-dot two month.rest) (λ d. outcome-then (outcome-digits two d)
    (λ day. outcome-then (outcome-hour two day.rest) (λ hour. gives refl)))))

outcome-text-number : {R : ℕ → Type 0} → R not_text → (k : Kind) (s : ℤ) → Outcome R Any (number_text k s)
unfolding number_text
outcome-text-number two k s = outcome-demand (reads_number_texts k && fits32 s) not_text two (outcome-fields not_text s two)

outcome-text-fields : {R : ℕ → Type 0} → R not_text → (k : Kind) (r : Read ℤ) → Outcome R Any (text_fields k r)
unfolding text_fields
outcome-text-fields two k r = outcome-cond (at_end r.rest) (outcome-text-number two k r.value) (outcome-so (λ f p. tt) (outcome-part two r.value r.rest))

pub outcome-leading : {R : ℕ → Type 0} → R not_text → (s : List ℕ) → Outcome R Any (leading s)
unfolding leading
outcome-leading two [] = refuses two
outcome-leading two (b ∷ s) =
    outcome-cond (eqb b (byte "-")) (gives tt)
    (outcome-cond (eqb b (byte "+")) (gives tt) (outcome-cond (is_digit b) (gives tt) (refuses two)))

-- a text that is not too long: its refusals are 2 alone
abbrev pub within_limit : Kind → List ℕ → Answer Fields
within_limit k s = demand (shape_allowed k s) not_text (leading s then λ r. text_fields k r then λ f. settled k not_text f)

pub outcome-within : {R : ℕ → Type 0} → R not_text → (k : Kind) (s : List ℕ) → Outcome R (Dated k) (within_limit k s)
outcome-within two k s =
    outcome-demand (shape_allowed k s) not_text two
    (outcome-then (outcome-leading two s) (λ r. outcome-then (outcome-text-fields two k r) (λ f. outcome-settled k not_text f two)))

pub outcome-text : {R : ℕ → Type 0} → R too_long → R not_text → (k : Kind) (s : List ℕ) → Outcome R (Dated k) (read_text k s)
unfolding read_text
outcome-text one two k s = outcome-demand (leb (length s) text_limit) too_long one (outcome-within two k s)

-- ---- a line's number, which refuses with 2 alone

outcome-sized : {R : ℕ → Type 0} → R not_text → (sign : ℕ → ℤ) (s : List ℕ) → Outcome R Any (digits_as_number sign s)
unfolding digits_as_number
outcome-sized two sign s = outcome-demand (within 1 10 (length (digits s)) && at_end (after_digits s) && fits32 (sign (decimal_value (digits s)))) not_text two (gives tt)

pub outcome-line : {R : ℕ → Type 0} → R not_text → (s : List ℕ) → Outcome R Any (line_number s)
unfolding line_number
outcome-line two [] = refuses two
outcome-line two (b ∷ s) = outcome-cond (eqb b (byte "-")) (outcome-sized two minus s) (outcome-sized two pos (b ∷ s))
