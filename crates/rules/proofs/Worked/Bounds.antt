-- Document 01's bounds, each from both sides: fields, dates handed in, texts, numbers, guesses and additions. Assumes nothing.
use mathlib.Core.Path.{◌≡◌, refl}
use mathlib.Core.List.{List, [], ◌∷◌}
use lib.IntN.{pos, negsuc}
use Rattle.rules.specs.Words.{bytes}
use Rattle.rules.specs.Refusals.{Answer, Refused}
use Rattle.rules.specs.Calendar.{lengths, month_length, sum_first, first_day, day_of_year, walk, month_day}
use Rattle.rules.specs.Kinds.{kR, kD, kH, kU, kE, kV, Fields, fits_kind, of_kind, made, from_fields, settled, unpacked, mark_allowed, mark_of, handed}
use Rattle.rules.specs.Numbers.{number_fields, decoded, read_number, guess_number}
use Rattle.rules.specs.Days.{day_number, day_fields, summed, add_days, start_of_day}
use Rattle.rules.specs.Text.{digits, after_digits, decimal_value, leading, second_digit, one_or_two, after_dot, hour_after, dotted_part, number_text, shape_allowed, text_fields, read_text}
use Rattle.rules.proofs.Worked.Cases.{Case, ◌is◌, answers, literals, on, date, bits}

-- fields, and dates handed in (1444.11.11 with hour 22 is the word 46552)
abbrev pub fields : List (Case (Answer Fields))
fields =
    (from_fields kR (on (negsuc 32767) 1 1 0) is date (negsuc 32767) 1 1 0)
    ∷ (from_fields kR (on (negsuc 32768) 1 1 0) is Refused 4)
    ∷ (from_fields kR (on (pos 32767) 12 31 24) is date (pos 32767) 12 31 24)
    ∷ (from_fields kR (on (pos 32768) 1 1 0) is Refused 4)
    ∷ (from_fields kR (on (pos 1444) 0 1 0) is Refused 4)
    ∷ (from_fields kR (on (pos 1444) 13 1 0) is Refused 4)
    ∷ (from_fields kR (on (pos 1444) 1 0 0) is Refused 4)
    ∷ (from_fields kR (on (pos 1444) 2 31 0) is date (pos 1444) 2 31 0)
    ∷ (from_fields kR (on (pos 1444) 2 32 0) is Refused 4)
    ∷ (from_fields kD (on (pos 1444) 2 28 9) is date (pos 1444) 2 28 0)
    ∷ (from_fields kD (on (pos 1444) 2 29 0) is Refused 4)
    ∷ (from_fields kH (on (pos 1444) 2 28 0) is Refused 4)
    ∷ (from_fields kH (on (pos 1444) 2 28 1) is date (pos 1444) 2 28 1)
    ∷ (from_fields kH (on (pos 1444) 2 28 24) is date (pos 1444) 2 28 24)
    ∷ (from_fields kH (on (pos 1444) 2 28 25) is Refused 4)
    ∷ (from_fields kU (on (pos 1444) 2 30 9) is date (pos 1444) 2 30 0)
    ∷ (from_fields kU (on (pos 1444) 1 31 0) is Refused 4)
    ∷ (from_fields kE (on (pos 1444) 2 28 24) is date (pos 1444) 2 28 0)
    ∷ (from_fields kE (on (pos 1444) 1 32 0) is Refused 4)
    ∷ (from_fields kV (on (pos 1444) 2 28 18) is date (pos 1444) 2 28 18)
    ∷ (from_fields kV (on (pos 1444) 2 28 17) is Refused 4)
    ∷ (handed kE (bits (pos 1444) 46552) is date (pos 1444) 11 11 22)
    ∷ (handed kE (bits (pos 1444) 46553) is date (pos 1444) 11 11 22)
    ∷ (handed kE (bits (pos 1444) 46554) is Refused 4)
    ∷ (handed kE (bits (pos 1444) 46556) is Refused 4)
    ∷ (handed kR (bits (pos 1444) 46556) is date (pos 1444) 11 11 23)
    ∷ (handed kD (bits (pos 1444) 46552) is Refused 4)
    ∷ (handed kD (bits (pos 1444) 46464) is date (pos 1444) 11 11 0)
    ∷ []

pub fields-hold : answers fields ≡ literals fields
unfolding lengths month_length fits_kind of_kind made from_fields handed
fields-hold = refl

-- D's lengths and its `+`; number texts; years; hours
abbrev pub texts : List (Case (Answer Fields))
texts =
    (read_text kD (bytes "0000") is Refused 2)
    ∷ (read_text kD (bytes "00000") is date (negsuc 4999) 1 1 0)
    ∷ (read_text kD (bytes "00001444.1.1") is date (pos 1444) 1 1 0)
    ∷ (read_text kD (bytes "000001444.1.1") is Refused 2)
    ∷ (read_text kD (bytes "+144.01.01") is date (pos 144) 1 1 0)
    ∷ (read_text kD (bytes "+144.01.1") is date (pos 144) 1 1 0)
    ∷ (read_text kD (bytes "+144.1.11") is date (pos 144) 1 11 0)
    ∷ (read_text kD (bytes "+44.11.1") is date (pos 44) 11 1 0)
    ∷ (read_text kD (bytes "+8760000") is date (negsuc 3999) 1 1 0)
    ∷ (read_text kD (bytes "+14.1.1") is Refused 2)
    ∷ (read_text kD (bytes "+1444.1.11") is Refused 2)
    ∷ (read_text kD (bytes "+12345678") is Refused 2)
    ∷ (read_text kR (bytes "+1444.1.1") is date (pos 1444) 1 1 0)
    ∷ (read_text kD (bytes "43808761") is Refused 2)
    ∷ (read_text kU (bytes "-") is date (negsuc 4999) 1 1 0)
    ∷ (read_text kU (bytes "+") is date (negsuc 4999) 1 1 0)
    ∷ (read_text kU (bytes "719") is Refused 2)
    ∷ (read_text kU (bytes "696") is date (negsuc 4999) 1 30 0)
    ∷ (read_text kU (bytes "720") is Refused 2)
    ∷ (read_text kR (bytes "43808760") is Refused 2)
    ∷ (read_text kV (bytes "43808760") is Refused 2)
    ∷ (read_text kE (bytes "43808760") is Refused 2)
    ∷ (read_text kH (bytes "330847679") is date (pos 32767) 12 31 23)
    ∷ (read_text kH (bytes "330847681") is Refused 2)
    ∷ (read_text kR (bytes "32767.1.1") is date (pos 32767) 1 1 0)
    ∷ (read_text kR (bytes "32768.1.1") is Refused 2)
    ∷ (read_text kR (bytes "-32768.1.1") is date (negsuc 32767) 1 1 0)
    ∷ (read_text kR (bytes "-32769.1.1") is Refused 2)
    ∷ (read_text kR (bytes "") is Refused 2)
    ∷ (read_text kR (bytes "1444.1.1.0") is Refused 2)
    ∷ (read_text kR (bytes "1444.1.1.24") is date (pos 1444) 1 1 24)
    ∷ (read_text kR (bytes "1444.1.1.240") is Refused 2)
    ∷ (read_text kR (bytes "1444.1.1.") is Refused 2)
    ∷ (read_text kR (bytes "1444.001.1") is Refused 2)
    ∷ (read_text kR (bytes "1444.1") is Refused 2)
    ∷ (read_text kR (bytes "1444-1-1") is Refused 2)
    ∷ (read_text kH (bytes "1444.1.1") is Refused 2)
    ∷ (read_text kH (bytes "1444.1.1.24") is date (pos 1444) 1 1 24)
    ∷ (read_text kD (bytes "1444.1.1.1") is Refused 2)
    ∷ (read_text kV (bytes "1444.1.1.6") is date (pos 1444) 1 1 6)
    ∷ (read_text kV (bytes "1444.1.1.7") is Refused 2)
    ∷ (read_text kE (bytes "1444.1.1.21") is date (pos 1444) 1 1 21)
    ∷ (read_text kE (bytes "1444.1.1.23") is date (pos 1444) 1 1 22)
    ∷ (read_text kE (bytes "1444.1.1.24") is Refused 2)
    ∷ []

pub texts-hold : answers texts ≡ literals texts
unfolding lengths month_length walk month_day fits_kind of_kind made settled number_fields
    digits after_digits decimal_value leading second_digit one_or_two after_dot hour_after dotted_part number_text shape_allowed text_fields read_text
texts-hold = refl

-- the ends of the numbers that are read; each kind's hour; each guess
abbrev pub numbers : List (Case (Answer Fields))
numbers =
    (read_number kR (negsuc 243247679) is date (negsuc 32767) 1 1 0)
    ∷ (read_number kR (negsuc 243247680) is Refused 3)
    ∷ (read_number kR (negsuc 243256439) is Refused 3)
    ∷ (read_number kR (pos 330847679) is date (pos 32767) 12 31 23)
    ∷ (read_number kR (pos 330847680) is Refused 3)
    ∷ (read_number kR (negsuc 0) is Refused 3)
    ∷ (read_number kD (pos 43808761) is date (pos 1) 1 1 0)
    ∷ (read_number kH (pos 43808760) is date (pos 1) 1 1 1)
    ∷ (read_number kH (pos 43808783) is date (pos 1) 1 1 24)
    ∷ (read_number kE (pos 56456997) is date (pos 1444) 11 11 21)
    ∷ (read_number kV (pos 43808766) is date (pos 1) 1 1 6)
    ∷ (read_number kV (pos 43808767) is Refused 3)
    ∷ (read_number kU (pos 43808760) is Refused 4)
    ∷ (guess_number kD (pos 42924000) is Refused 3)
    ∷ (guess_number kD (pos 42932760) is date (negsuc 98) 1 1 0)
    ∷ (guess_number kD (pos 42932761) is Refused 3)
    ∷ (guess_number kE (pos 42924000) is Refused 3)
    ∷ (guess_number kE (pos 42932762) is date (negsuc 98) 1 1 2)
    ∷ (guess_number kE (pos 42932763) is Refused 3)
    ∷ (guess_number kH (pos 59567999) is Refused 3)
    ∷ (guess_number kH (pos 59568000) is date (pos 1800) 1 1 1)
    ∷ (guess_number kH (pos 43808760) is date (pos 1) 1 1 1)
    ∷ (guess_number kH (pos 43808761) is Refused 3)
    ∷ (guess_number kH (pos 43791240) is date (negsuc 0) 1 1 1)
    ∷ (guess_number kH (pos 43800000) is Refused 3)
    ∷ (guess_number kV (pos 58692000) is Refused 3)
    ∷ (guess_number kV (pos 58700760) is date (pos 1701) 1 1 0)
    ∷ (guess_number kV (pos 58700761) is Refused 3)
    ∷ (guess_number kV (pos 43808760) is date (pos 1) 1 1 0)
    ∷ (guess_number kV (pos 43808766) is Refused 3)
    ∷ (guess_number kR (pos 43808760) is Refused 4)
    ∷ (guess_number kU (pos 43808760) is Refused 4)
    ∷ []

pub numbers-hold : answers numbers ≡ literals numbers
unfolding lengths month_length walk month_day fits_kind of_kind made settled number_fields decoded read_number guess_number
numbers-hold = refl

-- the ends of the day numbers; what a kind's hour becomes; the kinds that lack the operation
abbrev pub additions : List (Case (Answer Fields))
additions =
    (add_days kD (on (pos 0) 1 1 0) (negsuc 11960683) is date (negsuc 32767) 12 31 0)
    ∷ (add_days kD (on (pos 0) 1 1 0) (negsuc 11960684) is Refused 6)
    ∷ (add_days kD (on (pos 0) 1 1 0) (pos 11960319) is date (pos 32767) 12 31 0)
    ∷ (add_days kD (on (pos 0) 1 1 0) (pos 11960320) is Refused 6)
    ∷ (add_days kD (on (negsuc 0) 1 1 0) (negsuc 2147483282) is Refused 6)
    ∷ (add_days kD (on (negsuc 0) 1 1 0) (negsuc 2147483283) is Refused 5)
    ∷ (add_days kD (on (pos 0) 1 1 0) (pos 2147483647) is Refused 6)
    ∷ (add_days kD (on (pos 0) 1 2 0) (pos 2147483647) is Refused 5)
    ∷ (add_days kD (on (pos 0) 1 1 0) (negsuc 363) is date (pos 0) 12 31 0)
    ∷ (add_days kD (on (pos 0) 1 1 0) (negsuc 364) is date (negsuc 0) 1 1 0)
    ∷ (add_days kE (on (pos 1444) 11 11 22) (pos 1) is date (pos 1444) 11 12 0)
    ∷ (add_days kV (on (pos 1444) 11 11 18) (pos 1) is date (pos 1444) 11 12 18)
    ∷ (add_days kR (on (pos 1444) 11 11 0) (pos 1) is Refused 4)
    ∷ (add_days kH (on (pos 1444) 11 11 1) (pos 1) is Refused 4)
    ∷ (add_days kU (on (pos 1444) 11 11 0) (pos 1) is Refused 4)
    ∷ (start_of_day kE (on (pos 1444) 11 11 22) is date (pos 1444) 11 11 0)
    ∷ (start_of_day kV (on (pos 1444) 11 11 18) is Refused 4)
    ∷ []

pub additions-hold : answers additions ≡ literals additions
unfolding lengths sum_first first_day day_of_year walk month_day day_number day_fields summed add_days start_of_day
additions-hold = refl
