-- Document 01, "Pairs to prove together": P1 to P10, as one theorem. Assumes nothing.
use mathlib.Core.Path.{◌≡◌, refl}
use mathlib.Core.List.{List, [], ◌∷◌}
use lib.IntN.{pos, negsuc}
use Rattle.rules.specs.Words.{bytes}
use Rattle.rules.specs.Refusals.{Answer, Refused}
use Rattle.rules.specs.Calendar.{lengths, month_length, sum_first, first_day, day_of_year, walk, month_day}
use Rattle.rules.specs.Kinds.{kR, kD, kH, kE, Fields, fits_kind, of_kind, made, from_fields, settled}
use Rattle.rules.specs.Numbers.{number_fields, decoded, read_number, guess_number}
use Rattle.rules.specs.Days.{day_number, day_fields, summed, add_days}
use Rattle.rules.specs.Text.{digits, after_digits, decimal_value, leading, second_digit, one_or_two, after_dot, hour_after, dotted_part, number_text, shape_allowed, text_fields, read_text}
use Rattle.rules.proofs.Worked.Cases.{Case, ◌is◌, answers, literals, on, date}

abbrev pub pairs : List (Case (Answer Fields))
pairs =
    -- P1
    (read_text kD (bytes "-.1.1") is date (pos 0) 1 1 0)
    -- P2
    ∷ (read_text kD (bytes "+144.1.1") is date (pos 144) 1 1 0)
    ∷ (read_text kD (bytes "+1444.1.1") is Refused 2)
    -- P3
    ∷ (read_text kR (bytes "1444.1.1.06") is Refused 2)
    -- P4
    ∷ (from_fields kR (on (pos 1444) 1 1 24) is date (pos 1444) 1 1 24)
    ∷ (from_fields kR (on (pos 1444) 1 1 25) is Refused 4)
    -- P5
    ∷ (read_number kD (negsuc 8759) is date (negsuc 5000) 1 1 0)
    ∷ (read_number kD (negsuc 8735) is Refused 3)
    -- P6
    ∷ (read_number kE (pos 56456999) is date (pos 1444) 11 11 22)
    ∷ (guess_number kE (pos 56456999) is Refused 3)
    -- P7
    ∷ (add_days kD (on (pos 0) 1 1 0) (negsuc 0) is date (pos 0) 1 2 0)
    -- P8
    ∷ (add_days kD (on (negsuc 0) 1 1 0) (pos 1) is date (pos 0) 12 31 0)
    -- P9
    ∷ (add_days kD (on (pos 32767) 12 31 0) (pos 1) is Refused 6)
    ∷ (add_days kD (on (pos 32767) 12 31 0) (pos 2147483647) is Refused 5)
    -- P10
    ∷ (read_text kH (bytes "43808760") is Refused 2)
    ∷ (read_text kH (bytes "43808761") is date (pos 1) 1 1 1)
    ∷ []

pub pairs-hold : answers pairs ≡ literals pairs
unfolding lengths month_length sum_first first_day day_of_year walk month_day fits_kind of_kind made from_fields settled
    number_fields decoded read_number guess_number day_number day_fields summed add_days
    digits after_digits decimal_value leading second_digit one_or_two after_dot hour_after dotted_part number_text shape_allowed text_fields read_text
pairs-hold = refl
