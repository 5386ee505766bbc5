-- #104 of document 02: its own texts; the limit of every kind from both sides; and leading numbers at both sides of 16, 32, 63 and 64
-- bits, with those that a cut to fewer bits would make good. Assumes nothing.
use Prim.Native.Nat.{ℕ}
use mathlib.Core.Path.{◌≡◌, refl}
use mathlib.Core.List.{List, [], ◌∷◌, ◌++◌}
use lib.IntN.{pos, negsuc}
use lib.ListN.{replicate}
use Rattle.rules.specs.Words.{byte, bytes}
use Rattle.rules.specs.Refusals.{Answer, Refused}
use Rattle.rules.specs.Calendar.{lengths, month_length, walk, month_day}
use Rattle.rules.specs.Kinds.{kR, kD, kH, kU, kE, kV, Fields, fits_kind, of_kind, made, settled}
use Rattle.rules.specs.Numbers.{number_fields}
use Rattle.rules.specs.Text.{digits, after_digits, decimal_value, leading, second_digit, one_or_two, after_dot, hour_after, dotted_part, number_text, shape_allowed, text_fields, read_text}
use Rattle.rules.proofs.Worked.Cases.{Case, ◌is◌, answers, literals, date}

-- a text after so many zeros
infixr 25 ◌zeros◌
abbrev ◌zeros◌ : ℕ → List ℕ → List ℕ
n zeros s = replicate n (byte "0") ++ s

-- its own, then the limit alone: 64 bytes are a text, 65 are 1, which comes before 2
abbrev pub limits : List (Case (Answer Fields))
limits =
    (read_text kR (56 zeros bytes "1444.1.1") is date (pos 1444) 1 1 0)
    ∷ (read_text kR (57 zeros bytes "1444.1.1") is Refused 1)
    ∷ (read_text kU (56 zeros bytes "43808760") is date (pos 1) 1 1 0)
    ∷ (read_text kU (57 zeros bytes "43808760") is Refused 1)
    ∷ (read_text kD (56 zeros bytes "1444.1.1") is Refused 2)
    ∷ (read_text kD (57 zeros bytes "1444.1.1") is Refused 1)
    ∷ (read_text kD (56 zeros bytes "43808760") is Refused 2)
    ∷ (read_text kD (57 zeros bytes "43808760") is Refused 1)
    ∷ (read_text kD (4 zeros bytes "1444.1.1") is date (pos 1444) 1 1 0)
    ∷ (read_text kD (5 zeros bytes "1444.1.1") is Refused 2)
    ∷ (read_text kR (8 zeros bytes "1444.1.1") is date (pos 1444) 1 1 0)
    ∷ (read_text kR (9 zeros bytes "1444.1.1") is date (pos 1444) 1 1 0)
    ∷ (read_text kR (60 zeros bytes ".1.1") is date (pos 0) 1 1 0)
    ∷ (read_text kR (61 zeros bytes ".1.1") is Refused 1)
    ∷ (read_text kH (56 zeros bytes "43808761") is date (pos 1) 1 1 1)
    ∷ (read_text kH (57 zeros bytes "43808761") is Refused 1)
    ∷ (read_text kH (56 zeros bytes "43808760") is Refused 2)
    ∷ (read_text kH (54 zeros bytes "1444.1.1.1") is date (pos 1444) 1 1 1)
    ∷ (read_text kE (54 zeros bytes "1444.1.1.3") is date (pos 1444) 1 1 3)
    ∷ (read_text kE (55 zeros bytes "1444.1.1.3") is Refused 1)
    ∷ (read_text kV (54 zeros bytes "1444.1.1.6") is date (pos 1444) 1 1 6)
    ∷ (read_text kV (55 zeros bytes "1444.1.1.6") is Refused 1)
    ∷ (read_text kR (byte "-" ∷ (55 zeros bytes "1444.1.1")) is date (negsuc 1443) 1 1 0)
    ∷ (read_text kR (byte "-" ∷ (56 zeros bytes "1444.1.1")) is Refused 1)
    ∷ (read_text kR (byte "+" ∷ (55 zeros bytes "1444.1.1")) is date (pos 1444) 1 1 0)
    ∷ (read_text kU (byte "-" ∷ (63 zeros [])) is date (negsuc 4999) 1 1 0)
    ∷ (read_text kU (64 zeros []) is date (negsuc 4999) 1 1 0)
    ∷ (read_text kU (65 zeros []) is Refused 1)
    ∷ (read_text kR (replicate 64 (byte "x")) is Refused 2)
    ∷ (read_text kR (replicate 65 (byte "x")) is Refused 1)
    ∷ []

-- years and number texts by the true value of their digits
abbrev pub values : List (Case (Answer Fields))
values =
    (read_text kR (bytes "18446744073709553060.1.1") is Refused 2)
    ∷ (read_text kR (44 zeros bytes "32767.1.1") is date (pos 32767) 1 1 0)
    ∷ (read_text kR (44 zeros bytes "32768.1.1") is Refused 2)
    ∷ (read_text kR (byte "-" ∷ (44 zeros bytes "32768.1.1")) is date (negsuc 32767) 1 1 0)
    ∷ (read_text kR (byte "-" ∷ (44 zeros bytes "32769.1.1")) is Refused 2)
    ∷ (read_text kR (44 zeros bytes "66980.1.1") is Refused 2)
    ∷ (read_text kR (40 zeros bytes "4294968740.1.1") is Refused 2)
    ∷ (read_text kU (40 zeros bytes "2147483647") is Refused 2)
    ∷ (read_text kU (40 zeros bytes "2147483648") is Refused 2)
    ∷ (read_text kU (40 zeros bytes "4338776056") is Refused 2)
    ∷ (read_text kR (bytes "9223372036854775807.1.1") is Refused 2)
    ∷ (read_text kR (bytes "9223372036854775808.1.1") is Refused 2)
    ∷ (read_text kR (bytes "9223372036854777252.1.1") is Refused 2)
    ∷ (read_text kR (bytes "18446744073709551615.1.1") is Refused 2)
    ∷ (read_text kR (bytes "18446744073709551616.1.1") is Refused 2)
    ∷ (read_text kR (bytes "-18446744073709553060.1.1") is Refused 2)
    ∷ (read_text kR (40 zeros bytes "18446744073709553060.1.1") is Refused 2)
    ∷ (read_text kU (bytes "18446744073753360376") is Refused 2)
    ∷ (read_text kU (44 zeros bytes "18446744073753360376") is Refused 2)
    ∷ (read_text kR (bytes "999999999999999999999999999999999999999980400334421683602852.1.1") is Refused 2)
    ∷ (read_text kU (bytes "9999999999999999999999999999999999999999999981553255926334257144") is Refused 2)
    ∷ []

pub padded-hold : answers (limits ++ values) ≡ literals (limits ++ values)
unfolding lengths month_length walk month_day fits_kind of_kind made settled number_fields
    digits after_digits decimal_value leading second_digit one_or_two after_dot hour_after dotted_part number_text shape_allowed text_fields read_text
padded-hold = refl
