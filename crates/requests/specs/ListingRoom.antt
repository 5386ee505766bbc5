-- Document 02, #110: the listing in one lent buffer, and how much to lend. Assumes nothing.
use Rattle.std.specs.Prelude.{ℕ, ◌*◌, Bool, true, ◌&&◌, List, [], ◌∷◌, leb, eqb, length}
use Rattle.rules.specs.Refusals.{Answer, Gives, demand}
use Rattle.rules.specs.Listing.{input_limit, listing}

-- "more than 65,535 input bytes are 8"
abbrev pub too_many_bytes : ℕ
too_many_bytes = 8

-- what is answered of so many input bytes, or 8
abbrev pub within_limit : {A : Type 0} → ℕ → Answer A → Answer A
within_limit n answer = demand (leb n input_limit) too_many_bytes answer

-- "The host .. must know how much to lend": "n input bytes, n at most 65,535, give at most 12 × n output bytes"
unfoldable pub listing_room : ℕ → Answer ℕ
listing_room n = within_limit n (Gives (12 * n))

-- "the whole listing in one buffer", "the output being document 01's". "7 exactly when this listing doesn't fit, and then nothing is
-- written": `put_answer` and `put_buffer` of it, as for every text in a lent buffer
unfoldable pub lent_listing : List ℕ → Answer (List ℕ)
lent_listing input = within_limit (length input) (Gives (listing input))

-- "Empty lines meet the bound exactly": every line takes one byte of the input, an empty one its byte 10, and a last one that lacks it
-- the one byte that it has; so each byte but the last is byte 10
unfoldable pub one_byte_lines : List ℕ → Bool
one_byte_lines [] = true
one_byte_lines (b ∷ []) = true
one_byte_lines (b ∷ c ∷ s) = eqb b 10 && one_byte_lines (c ∷ s)
