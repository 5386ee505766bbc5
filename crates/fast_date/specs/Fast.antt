-- Document 01: "D's fast path for YYYY.M.D, YYYY.MM.D, YYYY.M.DD and YYYY.MM.DD": exactly when it answers, and what. Assumes nothing.
use Rattle.std.specs.Prelude.{ℕ, ◌/◌, ◌%◌, Bool, true, false, cond, ◌&&◌, ◌||◌, List, [], ◌∷◌, eqb, pos, length, Option, Some, None}
use Prim.Native.String.{String}
use Rattle.rules.specs.Words.{byte, bytes}
use Rattle.rules.specs.Refusals.{Answer, not_text}
use Rattle.rules.specs.Kinds.{kD, Fields, Stored, settled, store}
use Rattle.rules.specs.Text.{is_digit, decimal_value, read_text}
use Rattle.util.specs.Word.{all_digits}
use Rattle.kinds.specs.declared.Packed.{Packed}
use Rattle.kinds.specs.Views.{made_as}

-- a dot of the shape is a dot, a letter of it is a digit
abbrev pub stands : ℕ → ℕ → Bool
stands p b = cond (eqb p (byte ".")) (eqb b (byte ".")) (is_digit b)

unfoldable pub alike : List ℕ → List ℕ → Bool
alike [] [] = true
alike [] (b ∷ s) = false
alike (p ∷ ps) [] = false
alike (p ∷ ps) (b ∷ s) = stands p b && alike ps s

abbrev pub shaped : String → List ℕ → Bool
shaped shape s = eqb (length s) (length (bytes shape)) && alike (bytes shape) s

unfoldable pub fast_shape : List ℕ → Bool
fast_shape s = shaped "YYYY.M.D" s || shaped "YYYY.MM.D" s || shaped "YYYY.M.DD" s || shaped "YYYY.MM.DD" s

-- an answer, or none
pub data Quick : Type 0 where
  Answers : Answer Stored → Quick
  Silent : Quick

-- it answers what the plain reader answers, for these shapes and no other text
unfoldable pub quickly : List ℕ → Quick
quickly s = cond (fast_shape s) (Answers (store (read_text kD s))) Silent

abbrev pub quick : Option (Option Packed) → Quick
quick (Some read) = Answers (made_as not_text read)
quick None = Silent

-- eight bytes YYYYMMDD as a date, if all are digits
abbrev pub eight_date : ℕ → Fields
eight_date v = record { year = pos (v / 10000); month = v / 100 % 100; day = v % 100; hour = 0 }

unfoldable pub eight : List ℕ → Quick
eight bs = cond (all_digits bs) (Answers (store (settled kD not_text (eight_date (decimal_value bs))))) Silent
