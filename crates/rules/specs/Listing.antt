-- Document 01, "`datelist`": a line as a function of that line alone, and the whole output for a whole input. Assumes nothing.
use Rattle.std.specs.Prelude.{ℕ, Bool, true, false, cond, ◌&&◌, List, [], ◌∷◌, ◌++◌, map, leb, eqb, ℤ, pos, length}
use Rattle.rules.specs.Words.{within, minus, fits32, byte, bytes}
use Rattle.rules.specs.Refusals.{Answer, Gives, Refused, RefusedAt, ◌then◌, demand, not_text, unreadable_line}
use Rattle.rules.specs.Kinds.{Kind, kR, kD, kH, kU, kE, kV, kind_by, Fields}
use Rattle.rules.specs.Numbers.{reads_numbers, read_number, guesses, guess_number}
use Rattle.rules.specs.Text.{digits, after_digits, decimal_value, at_end, read_text}
use Rattle.rules.specs.Spelling.{decimal, dotted, iso}

-- ---- a line read: "kind letter, space, way, space, rest"

abbrev pub letter : Kind → ℕ
letter kR = byte "R"
letter kD = byte "D"
letter kH = byte "H"
letter kU = byte "U"
letter kE = byte "E"
letter kV = byte "V"

unfoldable pub kind_of_letter : ℕ → Answer Kind
kind_of_letter b = kind_by letter unreadable_line b

-- "Way t reads the rest as text; b and g read a number .. by full decoder or guess"
pub data Way : Type 0 where
  by_text : Way
  by_number : Way
  by_guess : Way

unfoldable pub way_of_letter : ℕ → Answer Way
way_of_letter b =
    cond (eqb b (byte "t")) (Gives by_text)
    (cond (eqb b (byte "b")) (Gives by_number) (cond (eqb b (byte "g")) (Gives by_guess) (Refused unreadable_line)))

-- "U b, U g, R g .. are 8": they are what those kinds lack
abbrev pub has_way : Kind → Way → Bool
has_way k by_text = true
has_way k by_number = reads_numbers k
has_way k by_guess = guesses k

pub record Line : Type 0 where
  pub kind : Kind
  pub way : Way
  pub rest : List ℕ

-- "other shapes are 8"
unfoldable pub read_line : List ℕ → Answer Line
read_line [] = Refused unreadable_line
read_line (a ∷ []) = Refused unreadable_line
read_line (a ∷ b ∷ []) = Refused unreadable_line
read_line (a ∷ b ∷ c ∷ []) = Refused unreadable_line
read_line (a ∷ b ∷ c ∷ d ∷ rest) =
    demand (eqb b (byte " ") && eqb d (byte " ")) unreadable_line
    (kind_of_letter a then λ k. way_of_letter c then λ w.
    demand (has_way k w) unreadable_line (Gives (record { kind = k; way = w; rest = rest })))

-- ---- what a line asks for

-- "a number (perhaps `-`, 1 to 10 digits, fitting 32 bits; else 2)"
unfoldable pub digits_as_number : (ℕ → ℤ) → List ℕ → Answer ℤ
digits_as_number sign s =
    demand (within 1 10 (length (digits s)) && at_end (after_digits s) && fits32 (sign (decimal_value (digits s)))) not_text
    (Gives (sign (decimal_value (digits s))))

unfoldable pub line_number : List ℕ → Answer ℤ
line_number [] = Refused not_text
line_number (b ∷ s) = cond (eqb b (byte "-")) (digits_as_number minus s) (digits_as_number pos (b ∷ s))

unfoldable pub date_by : Way → Kind → List ℕ → Answer Fields
date_by by_text k rest = read_text k rest
date_by by_number k rest = line_number rest then read_number k
date_by by_guess k rest = line_number rest then guess_number k

-- ---- what is printed

-- "it writes the fixed word refused and its number after the letter"
abbrev pub refused_text : ℕ → ℕ → List ℕ
refused_text front n = front ∷ bytes " " ++ bytes "refused" ++ bytes " " ++ decimal n

-- "letter, dotted text, ISO text"
unfoldable pub date_text : Kind → Answer Fields → List ℕ
date_text k (Gives f) = letter k ∷ bytes " " ++ dotted k f ++ bytes " " ++ iso k f
date_text k (Refused n) = refused_text (letter k) n
date_text k (RefusedAt n place) = refused_text (letter k) n

-- "`?` for 8"
unfoldable pub request_text : Answer Line → List ℕ
request_text (Gives l) = date_text l.kind (date_by l.way l.kind l.rest)
request_text (Refused n) = refused_text (byte "?") n
request_text (RefusedAt n place) = refused_text (byte "?") n

-- "every output line .. ends in byte 10"
abbrev pub line_end : List ℕ
line_end = 10 ∷ []

unfoldable pub line_output : List ℕ → List ℕ
line_output line = request_text (read_line line) ++ line_end

-- ---- the whole

-- a byte put before lines: byte 10 ends a line, any other begins the first of them
unfoldable pub onto : ℕ → List (List ℕ) → List (List ℕ)
onto b [] = (b ∷ []) ∷ []
onto b (l ∷ ls) = (b ∷ l) ∷ ls

abbrev pub before : ℕ → List (List ℕ) → List (List ℕ)
before b ls = cond (eqb b 10) ([] ∷ ls) (onto b ls)

-- "A line ends at byte 10; a last one may lack it"
unfoldable pub lines : List ℕ → List (List ℕ)
lines [] = []
lines (b ∷ s) = before b (lines s)

unfoldable pub joined : List (List ℕ) → List ℕ
joined [] = []
joined (l ∷ ls) = l ++ joined ls

-- "at most 65,535 bytes; longer input prints only `input too long`"
abbrev pub input_limit : ℕ
input_limit = 65535

unfoldable pub listing : List ℕ → List ℕ
listing input =
    cond (leb (length input) input_limit) (joined (map line_output (lines input))) (bytes "input too long" ++ line_end)
