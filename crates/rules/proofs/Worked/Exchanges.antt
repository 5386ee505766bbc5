-- #105 of document 02: its own years and both sides of each bound; each kind with its hours; the ISO text, which stays; and the room that a
-- text of 12 bytes needs. Assumes nothing.
use Prim.Native.Nat.{ℕ}
use mathlib.Core.Path.{◌≡◌, refl}
use mathlib.Core.List.{List, [], ◌∷◌}
use lib.IntN.{pos, negsuc}
use Rattle.rules.specs.Words.{bytes}
use Rattle.rules.specs.Refusals.{Answer, Gives, Refused}
use Rattle.rules.specs.Kinds.{kR, kD, kH, kU, kE, kV}
use Rattle.rules.specs.Spelling.{decimal_in, decimal, filled, iso_month_day, iso_hour, iso_date, iso, exchange, put_answer, put_buffer}
use Rattle.rules.proofs.Worked.Cases.{Case, ◌is◌, answers, literals, on}

-- its own five, then the years around each bound
abbrev pub years : List (Case (List ℕ))
years =
    (exchange kD (on (negsuc 4) 1 1 0) is bytes "-00005-01-01")
    ∷ (exchange kD (on (pos 10000) 1 1 0) is bytes "+10000-01-01")
    ∷ (exchange kD (on (negsuc 32767) 1 1 0) is bytes "-32768-01-01")
    ∷ (exchange kD (on (negsuc 9998) 12 31 0) is bytes "-09999-12-31")
    ∷ (exchange kD (on (pos 32767) 12 31 0) is bytes "+32767-12-31")
    ∷ (exchange kD (on (negsuc 0) 12 31 0) is bytes "-00001-12-31")
    ∷ (exchange kD (on (pos 0) 1 1 0) is bytes "0000-01-01")
    ∷ (exchange kD (on (pos 1) 1 1 0) is bytes "0001-01-01")
    ∷ (exchange kD (on (pos 999) 12 31 0) is bytes "0999-12-31")
    ∷ (exchange kD (on (pos 1000) 1 1 0) is bytes "1000-01-01")
    ∷ (exchange kD (on (pos 9999) 12 31 0) is bytes "9999-12-31")
    ∷ (exchange kD (on (pos 10001) 1 1 0) is bytes "+10001-01-01")
    ∷ (exchange kD (on (negsuc 9999) 1 1 0) is bytes "-10000-01-01")
    ∷ (exchange kD (on (negsuc 10000) 12 31 0) is bytes "-10001-12-31")
    ∷ (exchange kD (on (negsuc 32766) 1 1 0) is bytes "-32767-01-01")
    ∷ (exchange kD (on (pos 32766) 1 1 0) is bytes "+32766-01-01")
    ∷ []

-- the texts of 10 and of 15 bytes among them; R 1444.2.31 has one; E's components 2 and 3 share one
abbrev pub kinds : List (Case (List ℕ))
kinds =
    (exchange kR (on (negsuc 32767) 12 31 24) is bytes "-32768-12-31T23")
    ∷ (exchange kR (on (pos 32767) 12 31 1) is bytes "+32767-12-31T00")
    ∷ (exchange kR (on (pos 9999) 12 31 0) is bytes "9999-12-31")
    ∷ (exchange kR (on (pos 1444) 2 31 0) is bytes "1444-02-31")
    ∷ (exchange kH (on (negsuc 0) 1 1 1) is bytes "-00001-01-01T00")
    ∷ (exchange kH (on (pos 10000) 1 1 24) is bytes "+10000-01-01T23")
    ∷ (exchange kU (on (pos 0) 2 30 0) is bytes "0000-02-30")
    ∷ (exchange kU (on (negsuc 32767) 12 30 0) is bytes "-32768-12-30")
    ∷ (exchange kU (on (pos 10000) 1 1 0) is bytes "+10000-01-01")
    ∷ (exchange kE (on (negsuc 4) 1 1 0) is bytes "-00005-01-01T08")
    ∷ (exchange kE (on (pos 1444) 11 11 2) is bytes "1444-11-11T09")
    ∷ (exchange kE (on (pos 1444) 11 11 3) is bytes "1444-11-11T09")
    ∷ (exchange kE (on (pos 32767) 12 31 22) is bytes "+32767-12-31T19")
    ∷ (exchange kV (on (negsuc 32767) 1 1 0) is bytes "-32768-01-01T00")
    ∷ (exchange kV (on (pos 9999) 12 31 18) is bytes "9999-12-31T18")
    ∷ (exchange kV (on (pos 10000) 1 1 6) is bytes "+10000-01-01T06")
    ∷ []

-- "The Rust's ISO text stays as it is"
abbrev pub isos : List (Case (List ℕ))
isos =
    (iso kD (on (negsuc 4) 1 1 0) is bytes "-005-01-01")
    ∷ (iso kD (on (negsuc 9998) 12 31 0) is bytes "-9999-12-31")
    ∷ (iso kD (on (pos 9999) 12 31 0) is bytes "9999-12-31")
    ∷ (iso kD (on (pos 10000) 1 1 0) is bytes "10000-01-01")
    ∷ (iso kR (on (pos 32767) 12 31 1) is bytes "32767-12-31T00")
    ∷ []

pub texts-hold : (answers years ≡ literals years) × ((answers kinds ≡ literals kinds) × (answers isos ≡ literals isos))
unfolding decimal_in decimal filled iso_month_day iso_hour iso_date iso exchange
texts-hold = (refl, (refl, refl))

-- "No refusal changes": 7 where the buffer is shorter than the text, and then no byte of it changes
abbrev fives_text : Answer (List ℕ)
fives_text = Gives (exchange kD (on (negsuc 4) 1 1 0))

abbrev pub lengths : List (Case (Answer ℕ))
lengths =
    (put_answer fives_text (bytes "............") is Gives 12)
    ∷ (put_answer fives_text (bytes "...........") is Refused 7)
    ∷ []

abbrev pub buffers : List (Case (List ℕ))
buffers =
    (put_buffer fives_text (bytes ".............") is bytes "-00005-01-01.")
    ∷ (put_buffer fives_text (bytes "............") is bytes "-00005-01-01")
    ∷ (put_buffer fives_text (bytes "...........") is bytes "...........")
    ∷ []

pub room-holds : (answers lengths ≡ literals lengths) × (answers buffers ≡ literals buffers)
unfolding decimal_in decimal filled iso_month_day iso_hour exchange put_answer put_buffer
room-holds = (refl, refl)
