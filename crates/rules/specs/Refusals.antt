-- Document 01, "Refusal numbers": what an operation answers, and the numbers of the table by name. Assumes nothing.
use Rattle.std.specs.Prelude.{ℕ, Bool, true, false}

-- a value; or a refusal by its number; or, of 11, and of 21 of document 02, a refusal with a place
pub data Answer (A : Type 0) : Type 0 where
  Gives : A → Answer A
  Refused : ℕ → Answer A
  RefusedAt : ℕ → ℕ → Answer A

-- what follows a value; a refusal ends the matter at once
infixl 20 ◌then◌
abbrev pub ◌then◌ : {A B : Type 0} → Answer A → (A → Answer B) → Answer B
Gives a then next = next a
Refused n then next = Refused n
RefusedAt n place then next = RefusedAt n place

-- what follows where the test holds, else the refusal
abbrev pub demand : {A : Type 0} → Bool → ℕ → Answer A → Answer A
demand true n x = x
demand false n x = Refused n

-- whether a value is given
abbrev pub given : {A : Type 0} → Answer A → Bool
given (Gives a) = true
given (Refused n) = false
given (RefusedAt n place) = false

-- text over 64 bytes (document 01 has 16). #104 of document 02: "1 now begins at 65 bytes"
abbrev pub too_long : ℕ
too_long = 1

-- text not of that kind, or no such number after way b or g
abbrev pub not_text : ℕ
not_text = 2

-- number not a date, or guess refused
abbrev pub not_number : ℕ
not_number = 3

-- fields, or a date handed in, not of the kind
abbrev pub not_of_kind : ℕ
not_of_kind = 4

-- addition: the sum is outside 32 bits; it is no date's
abbrev pub sum_overflows : ℕ
sum_overflows = 5

abbrev pub out_of_range : ℕ
out_of_range = 6

-- buffer shorter than the text
abbrev pub buffer_short : ℕ
buffer_short = 7

-- unreadable `datelist` line
abbrev pub unreadable_line : ℕ
unreadable_line = 8

-- book: its length, in any of the table's cases
abbrev pub bad_length : ℕ
bad_length = 9

-- version not 1
abbrev pub bad_version : ℕ
bad_version = 10

-- a record that no date of its kind has
abbrev pub bad_record : ℕ
bad_record = 11

-- new and append: no room
abbrev pub no_room : ℕ
no_room = 12

-- no record at that place
abbrev pub no_record : ℕ
no_record = 13

-- #106 of document 02: "20 when a guessed date is appended to a version 1 book"
abbrev pub guessed_date : ℕ
guessed_date = 20
