-- #110: worked cases of the room for a listing, and of a listing in a lent buffer. Of the longest inputs `LentLaws` speaks: `many-exactly`,
-- `ends-fit` and `ends-short`, over every n. Assumes nothing.
use Prim.Native.Nat.{ℕ, ◌*◌}
use mathlib.Core.Path.{◌≡◌, refl}
use mathlib.Core.Bool.{Bool, true, false}
use mathlib.Core.List.{List, [], ◌∷◌, ◌++◌}
use lib.ListN.{length, replicate}
use Rattle.rules.specs.Words.{byte, bytes}
use Rattle.rules.specs.Refusals.{Answer, Gives, Refused}
use Rattle.rules.specs.Calendar.{lengths, month_length, walk, month_day}
use Rattle.rules.specs.Kinds.{fits_kind, of_kind, made, settled}
use Rattle.rules.specs.Numbers.{number_fields, decoded, read_number, guess_number}
use Rattle.rules.specs.Text.{digits, after_digits, decimal_value, leading, second_digit, one_or_two, after_dot, hour_after, dotted_part, number_text, shape_allowed, text_fields, read_text}
use Rattle.rules.specs.Spelling.{decimal_in, decimal, filled, dotted_hour, dotted, iso_month_day, iso_hour, iso_date, iso, put_answer, put_buffer}
use Rattle.rules.specs.Listing.{kind_of_letter, way_of_letter, read_line, digits_as_number, line_number, date_by, date_text, request_text, line_output, line_end, onto, lines, joined, listing}
use Rattle.rules.proofs.Worked.Cases.{Case, ◌is◌, answers, literals}
use Rattle.rules.proofs.Worked.Lines.{◌line◌}
use Rattle.requests.specs.ListingRoom.{listing_room, lent_listing, one_byte_lines}

-- ---- how much to lend

abbrev rooms : List (Case (Answer ℕ))
rooms =
    (listing_room 0 is Gives 0)
    ∷ (listing_room 1 is Gives 12)
    ∷ (listing_room 65534 is Gives 786408)
    ∷ (listing_room 65535 is Gives 786420)
    ∷ (listing_room 65536 is Refused 8)
    ∷ (listing_room 4294967296 is Refused 8)
    ∷ (listing_room 18446744073709551615 is Refused 8)
    ∷ []

pub rooms-hold : answers rooms ≡ literals rooms
unfolding listing_room
rooms-hold = refl

-- ---- document 01's example: 103 bytes, of which a listing could have 1,236; it has 172

abbrev example : List ℕ
example =
    bytes "D t 1444.11.11" line bytes "E t 1444.11.11.23" line bytes "V b 43808760" line bytes "H b 43808760"
    line bytes "U t 1444.2.30" line bytes "U b 0" line bytes "D t +1444.1.1" line bytes "D b -8760" line []

-- any byte stands in the buffer before
abbrev lent : ℕ → List ℕ
lent room = replicate room (byte "~")

abbrev lengths_told : List (Case (Answer ℕ))
lengths_told =
    (put_answer (lent_listing example) (lent (12 * length example)) is Gives 172)
    ∷ (put_answer (lent_listing example) (lent 172) is Gives 172)
    ∷ (put_answer (lent_listing example) (lent 171) is Refused 7)
    ∷ (put_answer (lent_listing example) [] is Refused 7)
    -- nothing needs no room
    ∷ (put_answer (lent_listing []) [] is Gives 0)
    ∷ (put_answer (lent_listing []) (lent 2) is Gives 0)
    -- empty lines leave none of 12 for each byte to spare, nor does one byte after them
    ∷ (put_answer (lent_listing (replicate 1 10)) (lent 12) is Gives 12)
    ∷ (put_answer (lent_listing (replicate 1 10)) (lent 11) is Refused 7)
    ∷ (put_answer (lent_listing (replicate 3 10)) (lent 36) is Gives 36)
    ∷ (put_answer (lent_listing (replicate 3 10)) (lent 35) is Refused 7)
    ∷ (put_answer (lent_listing (replicate 2 10 ++ bytes "D")) (lent 36) is Gives 36)
    ∷ (put_answer (lent_listing (replicate 2 10 ++ bytes "D")) (lent 35) is Refused 7)
    -- a byte that does not end its line, and is not the last, leaves some
    ∷ (put_answer (lent_listing (bytes "D" ++ replicate 2 10)) (lent 24) is Gives 24)
    ∷ (put_answer (lent_listing (bytes "DD")) (lent 12) is Gives 12)
    -- a refused line takes 12 bytes, and so does an unreadable one; a last line may lack its byte 10, its output has one
    ∷ (put_answer (lent_listing (bytes "D t ")) (lent 12) is Gives 12)
    ∷ (put_answer (lent_listing (bytes "D b 0")) (lent 24) is Gives 24)
    ∷ (put_answer (lent_listing (bytes "D b 0")) (lent 23) is Refused 7)
    ∷ (put_answer (lent_listing (bytes "D b 0" ++ line_end)) (lent 24) is Gives 24)
    ∷ []

pub lengths-told-hold : answers lengths_told ≡ literals lengths_told
unfolding lengths month_length walk month_day fits_kind of_kind made settled number_fields decoded read_number guess_number
    digits after_digits decimal_value leading second_digit one_or_two after_dot hour_after dotted_part number_text shape_allowed text_fields read_text
    decimal_in decimal filled dotted_hour dotted iso_month_day iso_hour iso_date iso
    kind_of_letter way_of_letter read_line digits_as_number line_number date_by date_text request_text line_output onto lines joined listing put_answer lent_listing
lengths-told-hold = refl

abbrev buffers : List (Case (List ℕ))
buffers =
    -- just enough; two more, which stay; one too few: nothing is written
    (put_buffer (lent_listing (bytes "D b 0" line bytes "U b 0")) (lent 36) is (bytes "D -5000.1.1 -5000-01-01" line bytes "? refused 8" line []))
    ∷ (put_buffer (lent_listing (bytes "D b 0" line bytes "U b 0")) (lent 38)
    is (bytes "D -5000.1.1 -5000-01-01" line bytes "? refused 8" line bytes "~~"))
    ∷ (put_buffer (lent_listing (bytes "D b 0" line bytes "U b 0")) (lent 35) is bytes "~~~~~~~~~~~~~~~~~~~~~~~~~~~~~~~~~~~")
    ∷ (put_buffer (lent_listing (replicate 1 10)) (lent 11) is bytes "~~~~~~~~~~~")
    ∷ (put_buffer (lent_listing []) (lent 2) is bytes "~~")
    ∷ []

pub buffers-hold : answers buffers ≡ literals buffers
unfolding lengths month_length walk month_day fits_kind of_kind made settled number_fields decoded read_number guess_number
    digits after_digits decimal_value leading second_digit one_or_two after_dot hour_after dotted_part number_text shape_allowed text_fields read_text
    decimal_in decimal filled dotted_hour dotted iso_month_day iso_hour iso_date iso
    kind_of_letter way_of_letter read_line digits_as_number line_number date_by date_text request_text line_output onto lines joined listing put_answer put_buffer lent_listing
buffers-hold = refl

abbrev bounds : List (Case Bool)
bounds =
    (one_byte_lines [] is true)
    ∷ (one_byte_lines (replicate 1 10) is true)
    ∷ (one_byte_lines (bytes "D") is true)
    ∷ (one_byte_lines (replicate 2 10 ++ bytes "D") is true)
    ∷ (one_byte_lines (bytes "D" ++ line_end) is false)
    ∷ (one_byte_lines (bytes "DD") is false)
    ∷ []

pub bounds-hold : answers bounds ≡ literals bounds
unfolding one_byte_lines
bounds-hold = refl
