-- Document 01's `datelist` example, whole input against whole output, and the odd shapes of a line. Assumes nothing.
use Prim.Native.Nat.{ℕ}
use mathlib.Core.Path.{◌≡◌, refl}
use mathlib.Core.List.{List, [], ◌∷◌, ◌++◌}
use lib.ListN.{replicate}
use Rattle.rules.specs.Words.{byte, bytes}
use Rattle.rules.specs.Calendar.{lengths, month_length, walk, month_day}
use Rattle.rules.specs.Kinds.{fits_kind, of_kind, made, settled}
use Rattle.rules.specs.Numbers.{number_fields, decoded, read_number, guess_number}
use Rattle.rules.specs.Text.{digits, after_digits, decimal_value, leading, second_digit, one_or_two, after_dot, hour_after, dotted_part, number_text, shape_allowed, text_fields, read_text}
use Rattle.rules.specs.Spelling.{decimal_in, decimal, filled, dotted_hour, dotted, iso_month_day, iso_hour, iso_date, iso}
use Rattle.rules.specs.Listing.{kind_of_letter, way_of_letter, read_line, digits_as_number, line_number, date_by, date_text, request_text, line_output, line_end, onto, lines, joined, listing}
use Rattle.rules.proofs.Worked.Cases.{Case, ◌is◌, answers, literals}

infixr 25 ◌line◌
abbrev pub ◌line◌ : List ℕ → List ℕ → List ℕ
l line s = l ++ line_end ++ s

-- the whole of the example, and whole inputs of other shapes
abbrev pub listings : List (Case (List ℕ))
listings =
    (listing (bytes "D t 1444.11.11" line bytes "E t 1444.11.11.23" line bytes "V b 43808760" line bytes "H b 43808760"
    line bytes "U t 1444.2.30" line bytes "U b 0" line bytes "D t +1444.1.1" line bytes "D b -8760" line [])
    is (bytes "D 1444.11.11 1444-11-11" line bytes "E 1444.11.11.22 1444-11-11T19" line bytes "V 1.1.1 0001-01-01T00"
    line bytes "H 1.1.1.1 0001-01-01T00" line bytes "U 1444.02.30 1444-02-30" line bytes "? refused 8"
    line bytes "D refused 2" line bytes "D -5001.1.1 -5001-01-01" line []))
    ∷ (listing [] is [])
    ∷ (listing line_end is (bytes "? refused 8" line []))
    ∷ (listing (bytes "D t 0.1.1") is (bytes "D 0.1.1 0000-01-01" line []))
    ∷ (listing (bytes "U t " line bytes "U t") is (bytes "U refused 2" line bytes "? refused 8" line []))
    ∷ []

-- single lines
abbrev pub one_line : List (Case (List ℕ))
one_line =
    (line_output (bytes "U g 0") is (bytes "? refused 8" line []))
    ∷ (line_output (bytes "R g 0") is (bytes "? refused 8" line []))
    ∷ (line_output (bytes "R b 0") is (bytes "R -5000.1.1 -5000-01-01" line []))
    ∷ (line_output (bytes "X t 1.1.1") is (bytes "? refused 8" line []))
    ∷ (line_output (bytes "D x 1.1.1") is (bytes "? refused 8" line []))
    ∷ (line_output (bytes "Dt 1.1.1") is (bytes "? refused 8" line []))
    ∷ (line_output (bytes "D t1.1.1") is (bytes "? refused 8" line []))
    ∷ (line_output (bytes "D b ") is (bytes "D refused 2" line []))
    ∷ (line_output (bytes "D b -") is (bytes "D refused 2" line []))
    ∷ (line_output (bytes "D b -0") is (bytes "D -5000.1.1 -5000-01-01" line []))
    ∷ (line_output (bytes "D b +5") is (bytes "D refused 2" line []))
    ∷ (line_output (bytes "D b 0000000000") is (bytes "D -5000.1.1 -5000-01-01" line []))
    ∷ (line_output (bytes "D b 00000000000") is (bytes "D refused 2" line []))
    ∷ (line_output (bytes "D b 2147483647") is (bytes "D refused 3" line []))
    ∷ (line_output (bytes "D b 2147483648") is (bytes "D refused 2" line []))
    ∷ (line_output (bytes "D b -2147483648") is (bytes "D refused 3" line []))
    ∷ (line_output (bytes "D b -2147483649") is (bytes "D refused 2" line []))
    ∷ (line_output (bytes "D b 5 ") is (bytes "D refused 2" line []))
    ∷ (line_output (bytes "D g 42924000") is (bytes "D refused 3" line []))
    ∷ (line_output (bytes "D t 0000000001444.1.1") is (bytes "D refused 2" line []))
    ∷ (line_output (bytes "R t " ++ replicate 56 (byte "0") ++ bytes "1444.1.1") is (bytes "R 1444.1.1 1444-01-01" line []))
    ∷ (line_output (bytes "R t " ++ replicate 57 (byte "0") ++ bytes "1444.1.1") is (bytes "R refused 1" line []))
    ∷ (line_output (bytes "D b " ++ replicate 56 (byte "0") ++ bytes "43808760") is (bytes "D refused 2" line []))
    ∷ (line_output (bytes "D g " ++ replicate 56 (byte "0") ++ bytes "43808760") is (bytes "D refused 2" line []))
    ∷ (line_output (bytes "D g 0043808760") is (bytes "D 1.1.1 0001-01-01" line []))
    ∷ (line_output (bytes "D g 00043808760") is (bytes "D refused 2" line []))
    ∷ (line_output (bytes "D t  1444.1.1") is (bytes "D refused 2" line []))
    ∷ (line_output (bytes "E t -5.1.1.1") is (bytes "E -5.1.1.1 -005-01-01T08" line []))
    ∷ []

pub listings-hold : answers listings ≡ literals listings
unfolding lengths month_length walk month_day fits_kind of_kind made settled number_fields decoded read_number guess_number
    digits after_digits decimal_value leading second_digit one_or_two after_dot hour_after dotted_part number_text shape_allowed text_fields read_text
    decimal_in decimal filled dotted_hour dotted iso_month_day iso_hour iso_date iso
    kind_of_letter way_of_letter read_line digits_as_number line_number date_by date_text request_text line_output onto lines joined listing
listings-hold = refl

pub one-line-holds : answers one_line ≡ literals one_line
unfolding lengths month_length walk month_day fits_kind of_kind made settled number_fields decoded read_number guess_number
    digits after_digits decimal_value leading second_digit one_or_two after_dot hour_after dotted_part number_text shape_allowed text_fields read_text
    decimal_in decimal filled dotted_hour dotted iso_month_day iso_hour iso_date iso
    kind_of_letter way_of_letter read_line digits_as_number line_number date_by date_text request_text line_output
one-line-holds = refl
