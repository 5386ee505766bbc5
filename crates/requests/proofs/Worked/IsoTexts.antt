-- Worked cases of #102, each list one theorem by computation: the request's own examples, both sides of every bound, both refusals and
-- their order. Assumes nothing.
use mathlib.Core.Path.{◌≡◌, refl}
use mathlib.Core.List.{List, [], ◌∷◌, ◌++◌}
use lib.IntN.{pos, negsuc}
use lib.ListN.{replicate}
use Rattle.rules.specs.Words.{byte, bytes, same_bytes}
use Rattle.rules.specs.Refusals.{Answer, Refused}
use Rattle.rules.specs.Calendar.{lengths, month_length}
use Rattle.rules.specs.Kinds.{kR, kD, kH, kU, kE, kV, Fields, fits_kind, of_kind, made, settled}
use Rattle.rules.specs.Text.{digits, after_digits, decimal_value, leading, second_digit, one_or_two}
use Rattle.rules.specs.Spelling.{decimal_in, decimal, filled, iso_month_day, iso_hour, iso_date, iso}
use Rattle.rules.proofs.Worked.Cases.{Case, ◌is◌, answers, literals, on, date}
use Rattle.requests.specs.IsoReader.{iso_hour_after, iso_part, spelled_so, named, read_iso, iso_back}

-- ---- texts read

abbrev texts : List (Case (Answer Fields))
texts =
    -- the year: "only in the spelling that document 01 writes"
    (read_iso kD (bytes "-005-01-01") is date (negsuc 4) 1 1 0)
    ∷ (read_iso kD (bytes "-5-01-01") is Refused 2)
    ∷ (read_iso kD (bytes "-0005-01-01") is Refused 2)
    ∷ (read_iso kD (bytes "-00005-01-01") is Refused 2)  -- the exchange text's year
    ∷ (read_iso kD (bytes "+005-01-01") is Refused 2)
    ∷ (read_iso kD (bytes "0005-01-01") is date (pos 5) 1 1 0)
    ∷ (read_iso kD (bytes "0005-1-1") is Refused 2)
    ∷ (read_iso kD (bytes "00005-01-01") is Refused 2)
    ∷ (read_iso kD (bytes "0000-01-01") is date (pos 0) 1 1 0)
    ∷ (read_iso kD (bytes "-000-01-01") is Refused 2)
    ∷ (read_iso kD (bytes "-999-01-01") is date (negsuc 998) 1 1 0)
    ∷ (read_iso kD (bytes "-0999-01-01") is Refused 2)
    ∷ (read_iso kD (bytes "-1000-01-01") is date (negsuc 999) 1 1 0)
    ∷ (read_iso kD (bytes "9999-01-01") is date (pos 9999) 1 1 0)
    ∷ (read_iso kD (bytes "09999-01-01") is Refused 2)
    ∷ (read_iso kD (bytes "10000-01-01") is date (pos 10000) 1 1 0)
    ∷ (read_iso kD (bytes "+10000-01-01") is Refused 2)  -- likewise
    ∷ (read_iso kD (bytes "32767-12-31") is date (pos 32767) 12 31 0)
    ∷ (read_iso kD (bytes "32768-01-01") is Refused 2)
    ∷ (read_iso kD (bytes "-32768-01-01") is date (negsuc 32767) 1 1 0)
    ∷ (read_iso kD (bytes "-32769-01-01") is Refused 2)
    ∷ (read_iso kD (bytes "66980-01-01") is Refused 2)  -- 65536 + 1444
    -- month, day and what stands between
    ∷ (read_iso kD (bytes "1444-12-31") is date (pos 1444) 12 31 0)
    ∷ (read_iso kD (bytes "1444-00-01") is Refused 2)
    ∷ (read_iso kD (bytes "1444-13-01") is Refused 2)
    ∷ (read_iso kD (bytes "1444-01-00") is Refused 2)
    ∷ (read_iso kD (bytes "1444-02-28") is date (pos 1444) 2 28 0)
    ∷ (read_iso kD (bytes "1444-02-29") is Refused 2)
    ∷ (read_iso kU (bytes "1444-02-30") is date (pos 1444) 2 30 0)
    ∷ (read_iso kU (bytes "1444-01-31") is Refused 2)
    ∷ (read_iso kR (bytes "1444-02-31") is date (pos 1444) 2 31 0)
    ∷ (read_iso kR (bytes "1444-01-32") is Refused 2)
    ∷ (read_iso kD (bytes "1444.12.31") is Refused 2)
    ∷ (read_iso kD (bytes "1444-12.31") is Refused 2)
    ∷ (read_iso kD (bytes "1444-1-31") is Refused 2)
    ∷ (read_iso kD (bytes "1444-012-31") is Refused 2)
    ∷ (read_iso kD (bytes "1444-12-31-") is Refused 2)
    ∷ (read_iso kR (bytes "1444-12-31T") is Refused 2)
    ∷ (read_iso kR (bytes "1444-12") is Refused 2)
    ∷ (read_iso kD (bytes "43808760") is Refused 2)
    -- the hour: "H, V and E demand the hour; D and U refuse one"; R takes it or not
    ∷ (read_iso kR (bytes "1444-11-11") is date (pos 1444) 11 11 0)
    ∷ (read_iso kR (bytes "1444-11-11T00") is date (pos 1444) 11 11 1)
    ∷ (read_iso kR (bytes "1444-11-11T23") is date (pos 1444) 11 11 24)
    ∷ (read_iso kR (bytes "1444-11-11T24") is Refused 2)
    ∷ (read_iso kD (bytes "1444-11-11T00") is Refused 2)
    ∷ (read_iso kU (bytes "1444-11-11T00") is Refused 2)
    ∷ (read_iso kH (bytes "1444-11-11") is Refused 2)
    ∷ (read_iso kH (bytes "1444-11-11T00") is date (pos 1444) 11 11 1)
    ∷ (read_iso kH (bytes "1444-11-11T23") is date (pos 1444) 11 11 24)
    ∷ (read_iso kH (bytes "1444-11-11T24") is Refused 2)
    ∷ (read_iso kV (bytes "1444-11-11") is Refused 2)
    ∷ (read_iso kV (bytes "1444-11-11T00") is date (pos 1444) 11 11 0)
    ∷ (read_iso kV (bytes "1444-11-11T06") is date (pos 1444) 11 11 6)
    ∷ (read_iso kV (bytes "1444-11-11T07") is Refused 2)
    ∷ (read_iso kV (bytes "1444-11-11T18") is date (pos 1444) 11 11 18)
    ∷ (read_iso kE (bytes "1444-11-11") is Refused 2)
    ∷ (read_iso kE (bytes "1444-11-11T07") is Refused 2)
    ∷ (read_iso kE (bytes "1444-11-11T08") is date (pos 1444) 11 11 0)
    ∷ (read_iso kE (bytes "1444-11-11T09") is date (pos 1444) 11 11 2)
    ∷ (read_iso kE (bytes "1444-11-11T19") is date (pos 1444) 11 11 22)
    ∷ (read_iso kE (bytes "1444-11-11T20") is Refused 2)
    ∷ (read_iso kV (bytes "1444-11-11T6") is Refused 2)
    ∷ (read_iso kV (bytes "1444-11-11T006") is Refused 2)
    ∷ (read_iso kV (bytes "1444-11-11t06") is Refused 2)
    -- the limit, of #104: 1 from 65 bytes on, and before 2; no date's ISO text comes near it
    ∷ (read_iso kR (bytes "-32768-12-31T23") is date (negsuc 32767) 12 31 24)
    ∷ (read_iso kR (bytes "-32768-12-31T230") is Refused 2)
    ∷ (read_iso kR (bytes "-32768-12-31T2300") is Refused 2)
    ∷ (read_iso kD (replicate 54 (byte "0") ++ bytes "1444-11-11") is Refused 2)
    ∷ (read_iso kD (replicate 55 (byte "0") ++ bytes "1444-11-11") is Refused 1)
    ∷ (read_iso kD (replicate 64 (byte "x")) is Refused 2)
    ∷ (read_iso kD (replicate 65 (byte "x")) is Refused 1)
    ∷ (read_iso kD [] is Refused 2)
    ∷ []

pub texts-hold : answers texts ≡ literals texts
unfolding lengths month_length fits_kind of_kind made settled digits after_digits decimal_value leading second_digit one_or_two
    decimal_in decimal filled iso_month_day iso_hour iso_date iso same_bytes iso_hour_after iso_part spelled_so named read_iso
texts-hold = refl

-- ---- the way back: "component 3 comes back as 2"

abbrev backs : List (Case Fields)
backs =
    (iso_back kE (on (pos 1444) 11 11 3) is on (pos 1444) 11 11 2)
    ∷ (iso_back kE (on (pos 1444) 11 11 22) is on (pos 1444) 11 11 22)
    ∷ (iso_back kR (on (pos 1444) 11 11 3) is on (pos 1444) 11 11 3)
    ∷ (iso_back kH (on (pos 1444) 11 11 3) is on (pos 1444) 11 11 3)
    ∷ []

pub backs-hold : answers backs ≡ literals backs
unfolding iso_back
backs-hold = refl
