-- A row, read from its start. Each reader answers what it read and the rest of the row. One that does not find its part leaves
-- nothing, and in nothing no reader finds a part: so a row that is not as it is read never comes to its line end. Assumes nothing.
use Rattle.std.specs.Prelude.{ℕ, ◌+◌, min, Bool, false, cond, ◌&&◌, List, [], ◌∷◌, leb, eqb, ℤ, pos, length}
use Rattle.std.proofs.Math.IntN.{sub_ℕ}
use Rattle.spans.specs.Bytes.{index_of}
use Rattle.rules.specs.Words.{byte}
use Rattle.rules.specs.Refusals.{Answer, Gives, Refused, RefusedAt, ◌then◌, demand, not_text}
use Rattle.rules.specs.Text.{Read, is_digit, at_end}
use Rattle.scalar.specs.Number.{partial_of}

-- ---- bytes

-- the first byte, 0 of nothing
abbrev pub first_byte : List ℕ → ℕ
first_byte [] = 0
first_byte (b ∷ s) = b

-- what follows the byte b, which must stand first
abbrev pub after_byte : ℕ → List ℕ → List ℕ
after_byte b [] = []
after_byte b (a ∷ s) = cond (eqb a b) s []

-- what follows a word, which must stand first
abbrev pub after_word : List ℕ → List ℕ → List ℕ
after_word [] s = s
after_word (b ∷ w) s = after_word w (after_byte b s)

-- whether the rest of a row is its line end and nothing else
abbrev pub ends_row : List ℕ → Bool
ends_row [] = false
ends_row (b ∷ s) = eqb b 10 && at_end s

-- ---- numbers

-- up - dn, of which one is 0, and what follows it
pub record Number : Type 0 where
  pub up : ℕ
  pub dn : ℕ
  pub rest : List ℕ

abbrev pub no_number : Number
no_number = record { up = 0; dn = 0; rest = [] }

-- a number of a row has at most 18 digits, zeros before it not counted
abbrev pub most_of_row : ℕ
most_of_row = 999999999999999999

-- digits that go on from a value
unfoldable pub row_digits : ℕ → List ℕ → Answer (Read ℕ)
row_digits start s = partial_of start s then λ r. demand (leb r.value most_of_row) not_text (Gives r)

abbrev pub numbered : Answer (Read ℕ) → Number
numbered (Gives r) = record { up = r.value; dn = 0; rest = r.rest }
numbered (Refused n) = no_number
numbered (RefusedAt n place) = no_number

abbrev pub starts_with_digit : List ℕ → Bool
starts_with_digit [] = false
starts_with_digit (b ∷ s) = is_digit b

-- a number without a sign: at least one digit
unfoldable pub natural_of : List ℕ → Number
natural_of s = cond (starts_with_digit s) (numbered (row_digits 0 s)) no_number

abbrev pub negated : Number → Number
negated n = record { up = 0; dn = n.up; rest = n.rest }

-- a number, with or without a minus
unfoldable pub signed_of : List ℕ → Number
signed_of s = cond (eqb (first_byte s) (byte "-")) (negated (natural_of (after_byte (byte "-") s))) (natural_of s)

-- up - dn is a number of 32 bits
abbrev pub fits_whole : Number → Bool
fits_whole n = leb n.up 2147483647 && leb n.dn 2147483648

abbrev pub whole : Number → Read ℤ
whole n = cond (fits_whole n) (record { value = sub_ℕ n.up n.dn; rest = n.rest }) (record { value = pos 0; rest = [] })

-- a number of 32 bits
unfoldable pub whole_of : List ℕ → Read ℤ
whole_of s = whole (signed_of s)

-- ---- the length of a row

-- how many bytes the first row has: up to its line end and with it, or all where it lacks one
unfoldable pub row_length : List ℕ → ℕ
row_length s = min (index_of 10 s + 1) (length s)
