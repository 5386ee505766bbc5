-- Document 01, "Date to text": dotted, ISO, ISO date alone and exchange text, and a text in a lent buffer. Assumes nothing.
use Rattle.std.specs.Prelude.{ℕ, zero, suc, ◌+◌, ◌-◌, ◌/◌, ◌%◌, Bool, true, false, cond, List, [], ◌∷◌, ◌++◌, leb, ltb, eqb, ℤ, pos, negsuc, length, drop, replicate}
use Rattle.rules.specs.Words.{byte, bytes}
use Rattle.rules.specs.Refusals.{Answer, Gives, Refused, RefusedAt, ◌then◌, demand, given, buffer_short, not_of_kind}
use Rattle.rules.specs.Kinds.{Kind, kR, kD, kH, kU, kE, kV, Fields, in_game_hour}

-- ---- numbers in decimal

-- the byte of a digit
abbrev pub digit : ℕ → ℕ
digit d = byte "0" + d

-- n in decimal, with at most k digits before its last
unfoldable pub decimal_in : ℕ → ℕ → List ℕ
decimal_in zero n = digit (n % 10) ∷ []
decimal_in (suc k) n = cond (ltb n 10) (digit n ∷ []) (decimal_in k (n / 10) ++ digit (n % 10) ∷ [])

-- n in decimal, unpadded; n below 10 ^ 20
unfoldable pub decimal : ℕ → List ℕ
decimal n = decimal_in 19 n

-- n in decimal, zero-filled to this width
unfoldable pub filled : ℕ → ℕ → List ℕ
filled width n = replicate (width - length (decimal n)) (digit 0) ++ decimal n

-- ---- years

-- "unpadded"
abbrev pub plain_year : ℤ → List ℕ
plain_year (pos n) = decimal n
plain_year (negsuc n) = bytes "-" ++ decimal (suc n)

-- "year zero-filled to width 4, the sign counted"
abbrev pub iso_year : ℤ → List ℕ
iso_year (pos n) = filled 4 n
iso_year (negsuc n) = bytes "-" ++ filled 3 (suc n)

-- #105 of document 02: "years 0 to 9999 have four digits, all others a sign and five"
abbrev pub exchange_year : ℤ → List ℕ
exchange_year (pos n) = cond (leb n 9999) (filled 4 n) (bytes "+" ++ filled 5 n)
exchange_year (negsuc n) = bytes "-" ++ filled 5 (suc n)

-- ---- the dotted text

-- month and day: "U pads month and day to two"
abbrev pub dotted_pair : Kind → ℕ → List ℕ
dotted_pair kR n = decimal n
dotted_pair kD n = decimal n
dotted_pair kH n = decimal n
dotted_pair kU n = filled 2 n
dotted_pair kE n = decimal n
dotted_pair kV n = decimal n

-- "then .hour if not 0"
unfoldable pub dotted_hour : ℕ → List ℕ
dotted_hour h = cond (eqb h 0) [] (bytes "." ++ decimal h)

unfoldable pub dotted : Kind → Fields → List ℕ
dotted k f =
    plain_year f.year ++ bytes "." ++ dotted_pair k f.month ++ bytes "." ++ dotted_pair k f.day ++ dotted_hour f.hour

-- ---- the ISO and exchange texts

-- "-MM-DD"
unfoldable pub iso_month_day : Fields → List ℕ
iso_month_day f = bytes "-" ++ filled 2 f.month ++ bytes "-" ++ filled 2 f.day

-- "T and hour - 1 in two digits if hour is not 0"
abbrev pub iso_hour_before : ℕ → List ℕ
iso_hour_before h = cond (eqb h 0) [] (bytes "T" ++ filled 2 (h - 1))

-- what each kind adds: R and H as above; "V always adds T and its hour; E adds T and its in-game hour"
unfoldable pub iso_hour : Kind → ℕ → List ℕ
iso_hour kR h = iso_hour_before h
iso_hour kD h = []
iso_hour kH h = iso_hour_before h
iso_hour kU h = []
iso_hour kE h = bytes "T" ++ filled 2 (in_game_hour h)
iso_hour kV h = bytes "T" ++ filled 2 h

unfoldable pub iso_date : Fields → List ℕ
iso_date f = iso_year f.year ++ iso_month_day f

unfoldable pub iso : Kind → Fields → List ℕ
iso k f = iso_date f ++ iso_hour k f.hour

-- "Exchange text: as ISO, but" its year
unfoldable pub exchange : Kind → Fields → List ℕ
exchange k f = exchange_year f.year ++ iso_month_day f ++ iso_hour k f.hour

-- "E also has the ISO date alone"; no other kind has it
abbrev pub has_iso_date : Kind → Bool
has_iso_date kR = false
has_iso_date kD = false
has_iso_date kH = false
has_iso_date kU = false
has_iso_date kE = true
has_iso_date kV = false

unfoldable pub iso_date_alone : Kind → Fields → Answer (List ℕ)
iso_date_alone k f = demand (has_iso_date k) not_of_kind (Gives (iso_date f))

-- ---- a text in a lent buffer

-- "its length is returned"
unfoldable pub put_answer : Answer (List ℕ) → List ℕ → Answer ℕ
put_answer a buffer = a then λ text. demand (leb (length text) (length buffer)) buffer_short (Gives (length text))

-- "It fills the first bytes of its buffer, later bytes stay"; where it is refused, "no buffer changes"
unfoldable pub put_buffer : Answer (List ℕ) → List ℕ → List ℕ
put_buffer (Gives text) buffer = cond (given (put_answer (Gives text) buffer)) (text ++ drop (length text) buffer) buffer
put_buffer (Refused n) buffer = buffer
put_buffer (RefusedAt n place) buffer = buffer
