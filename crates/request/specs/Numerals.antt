-- A line's number in the parts in which the code reads it: how many bytes there are, the leading number, and whether it fits.
-- Assumes nothing.
use Rattle.std.specs.Prelude.{ℕ, suc, Bool, false, cond, not, ◌&&◌, List, [], ◌∷◌, eqb, ℤ, length}
use Rattle.rules.specs.Words.{within, fits32, byte}
use Rattle.rules.specs.Refusals.{Answer, Gives, demand, not_text}
use Rattle.rules.specs.Text.{Read, at_end}

-- 1 to 10 bytes after a `-` or after no sign; a `+` is no sign here
unfoldable pub few_digits : List ℕ → Bool
few_digits [] = false
few_digits (b ∷ s) = not (eqb b (byte "+")) && within 1 10 (cond (eqb b (byte "-")) (length s) (suc (length s)))

-- a number that 32 bits hold
unfoldable pub whole : ℤ → Answer ℤ
whole z = demand (fits32 z) not_text (Gives z)

-- a leading number, after which nothing may follow
abbrev pub whole_read : Read ℤ → Answer ℤ
whole_read r = demand (at_end r.rest) not_text (whole r.value)
