-- Document 01, "Text to date": the leading number, and the reading of a text for each kind. Assumes nothing.
use Rattle.std.specs.Prelude.{ℕ, ◌+◌, ◌*◌, ◌-◌, ◌^◌, Bool, true, false, cond, not, ◌&&◌, ◌||◌, List, [], ◌∷◌, leb, eqb, ℤ, pos, length, get_or}
use Rattle.rules.specs.Words.{within, minus, fits32, byte}
use Rattle.rules.specs.Refusals.{Answer, Gives, Refused, ◌then◌, demand, too_long, not_text}
use Rattle.rules.specs.Kinds.{Kind, kR, kD, kH, kU, kE, kV, Fields, settled}
use Rattle.rules.specs.Numbers.{number_fields}

abbrev pub is_digit : ℕ → Bool
is_digit b = within (byte "0") (byte "9") b

-- the value of a digit's byte
abbrev pub digit_value : ℕ → ℕ
digit_value b = b - byte "0"

-- a number, and the text after it
pub record Read (A : Type 0) : Type 0 where
  pub value : A
  pub rest : List ℕ

-- ---- the leading number: "a digit, `-` or `+`, then digits; a sign alone is 0". It is an integer of any size. #104 of document 02: "with
-- the leading number's true decimal value deciding and never its value after wrapping"

-- the digits that a text starts with, and what follows them
unfoldable pub digits : List ℕ → List ℕ
digits [] = []
digits (b ∷ s) = cond (is_digit b) (b ∷ digits s) []

unfoldable pub after_digits : List ℕ → List ℕ
after_digits [] = []
after_digits (b ∷ s) = cond (is_digit b) (after_digits s) (b ∷ s)

-- the decimal value of digits: 0 of none
unfoldable pub decimal_value : List ℕ → ℕ
decimal_value [] = 0
decimal_value (b ∷ s) = digit_value b * 10 ^ length s + decimal_value s

-- the number that a text's first digits are, and what follows
abbrev pub natural : List ℕ → Read ℕ
natural s = record { value = decimal_value (digits s); rest = after_digits s }

-- the same with a sign
abbrev pub signed : (ℕ → ℤ) → Read ℕ → Read ℤ
signed sign r = record { value = sign r.value; rest = r.rest }

unfoldable pub leading : List ℕ → Answer (Read ℤ)
leading [] = Refused not_text
leading (b ∷ s) =
    cond (eqb b (byte "-")) (Gives (signed minus (natural s)))
    (cond (eqb b (byte "+")) (Gives (signed pos (natural s)))
    (cond (is_digit b) (Gives (signed pos (natural (b ∷ s)))) (Refused not_text)))

-- ---- the dotted part: "`.`, month in 1 or 2 digits, `.`, day in 1 or 2 digits, and perhaps `.` with an hour"

-- after a first digit of value v: a second, or none
unfoldable pub second_digit : ℕ → List ℕ → Read ℕ
second_digit v [] = record { value = v; rest = [] }
second_digit v (b ∷ s) = cond (is_digit b) (record { value = v * 10 + digit_value b; rest = s }) (record { value = v; rest = b ∷ s })

-- 1 or 2 digits
unfoldable pub one_or_two : List ℕ → Answer (Read ℕ)
one_or_two [] = Refused not_text
one_or_two (b ∷ s) = demand (is_digit b) not_text (Gives (second_digit (digit_value b) s))

-- a dot, and what follows it
unfoldable pub after_dot : List ℕ → Answer (List ℕ)
after_dot [] = Refused not_text
after_dot (b ∷ s) = demand (eqb b (byte ".")) not_text (Gives s)

-- "an hour in 1 or 2 digits, the first not 0"
abbrev pub not_zero_first : List ℕ → Bool
not_zero_first [] = true
not_zero_first (b ∷ s) = not (eqb b (byte "0"))

-- "Nothing may follow"
abbrev pub at_end : List ℕ → Bool
at_end [] = true
at_end (b ∷ s) = false

-- the hour after the day: 0 where nothing follows
unfoldable pub hour_after : List ℕ → Answer ℕ
hour_after [] = Gives 0
hour_after (b ∷ s) =
    after_dot (b ∷ s) then λ h. demand (not_zero_first h) not_text
    (one_or_two h then λ hour. demand (at_end hour.rest) not_text (Gives hour.value))

-- month, day and perhaps hour, as fields of this year
unfoldable pub dotted_part : ℤ → List ℕ → Answer Fields
dotted_part year s =
    after_dot s then λ m. one_or_two m then λ month.
    after_dot month.rest then λ d. one_or_two d then λ day.
    hour_after day.rest then λ hour.
    Gives (record { year = year; month = month.value; day = day.value; hour = hour })

-- ---- a number text: "Nothing after it: the text is a number"

-- "R, V, E refuse"
abbrev pub reads_number_texts : Kind → Bool
reads_number_texts kR = false
reads_number_texts kD = true
reads_number_texts kH = true
reads_number_texts kU = true
reads_number_texts kE = false
reads_number_texts kV = false

-- "read as below with its hour unchanged"; "a number text [must fit] 32 [bits]". That D and U need hour 0, and H hour 1 or more,
-- is what those kinds are.
unfoldable pub number_text : Kind → ℤ → Answer Fields
number_text k s = demand (reads_number_texts k && fits32 s) not_text (number_fields not_text s)

-- ---- D's own rules

abbrev pub dot_at : ℕ → List ℕ → Bool
dot_at place s = eqb (get_or s place 0) (byte ".")

-- "at length 8, at length 10 with dots at places 4 and 7 (from 0), and at length 9 with dots at 4 and 6 or 4 and 7"
abbrev pub plus_allowed : List ℕ → Bool
plus_allowed s =
    eqb (length s) 8
    || (eqb (length s) 10 && dot_at 4 s && dot_at 7 s)
    || (eqb (length s) 9 && ((dot_at 4 s && dot_at 6 s) || (dot_at 4 s && dot_at 7 s)))

abbrev pub starts_with_plus : List ℕ → Bool
starts_with_plus [] = false
starts_with_plus (b ∷ s) = eqb b (byte "+")

-- "D also refuses lengths below 5 or above 12. D refuses a leading `+`, except" as above. #104: "D still takes 12 at most."
unfoldable pub shape_allowed : Kind → List ℕ → Bool
shape_allowed kR s = true
shape_allowed kD s = within 5 12 (length s) && (not (starts_with_plus s) || plus_allowed s)
shape_allowed kH s = true
shape_allowed kU s = true
shape_allowed kE s = true
shape_allowed kV s = true

-- ---- a text

-- the most bytes that a text may have. #104 of document 02: "Raise the text limit from 16 to 64 bytes"
abbrev pub text_limit : ℕ
text_limit = 64

-- the fields of what follows the leading number
unfoldable pub text_fields : Kind → Read ℤ → Answer Fields
text_fields k r = cond (at_end r.rest) (number_text k r.value) (dotted_part r.value r.rest)

unfoldable pub read_text : Kind → List ℕ → Answer Fields
read_text k s =
    demand (leb (length s) text_limit) too_long
    (demand (shape_allowed k s) not_text (leading s then λ r. text_fields k r then λ f. settled k not_text f))
