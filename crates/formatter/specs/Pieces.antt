-- The pieces that every text is made of: a year, and separated numbers of one or two digits after it. Assumes nothing.
use Rattle.std.specs.Prelude.{ℕ, suc, cond, Option, Some, None, List, [], ◌∷◌, ◌++◌, ℤ, pos, negsuc}
use Rattle.rules.specs.Words.{bytes}
use Rattle.rules.specs.Spelling.{decimal, filled}
use Rattle.digits.specs.Places.{digits_in}
use Rattle.formatter.specs.declared.years.Year.{Year}
use Rattle.formatter.specs.declared.pieces.Style.{Style}
use Rattle.formatter.specs.declared.pieces.Separated.{Separated}

-- a year zero-filled to one width from year 0 on, and to another, after its sign, before
abbrev pub filled_year : ℕ → ℕ → ℤ → List ℕ
filled_year above below (pos n) = filled above n
filled_year above below (negsuc n) = bytes "-" ++ filled below (suc n)

-- a sign's byte, if there is one
abbrev pub sign_text : Option ℕ → List ℕ
sign_text (Some sign) = sign ∷ []
sign_text None = []

-- the year that is to be written
unfoldable pub year_text : Year → List ℕ
year_text y = sign_text y.sign ++ digits_in y.digits y.size

-- a separator, and a number in two digits, or in as many as it has
unfoldable pub separated : Style → ℕ → List ℕ
separated s n = s.separator ∷ cond s.wide (filled 2 n) (decimal n)

-- the hour, if it is shown
abbrev pub hour_text : Option Separated → List ℕ
hour_text (Some h) = separated h.style h.value
hour_text None = []

-- its number, for the callers' arithmetic
abbrev pub hour_value : Option Separated → ℕ
hour_value (Some h) = h.value
hour_value None = 0

-- the whole text
unfoldable pub text_of : Year → Style → ℕ → ℕ → Option Separated → List ℕ
text_of year style month day hour = year_text year ++ separated style month ++ separated style day ++ hour_text hour
