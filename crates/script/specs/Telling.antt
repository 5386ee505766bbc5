-- What is written of a row, an answer and a buffer: `compare/README.md` has the format. Assumes nothing.
use Rattle.std.specs.Prelude.{ℕ, ◌/◌, ◌%◌, false, cond, List, [], ◌∷◌, ◌++◌, leb, Result, Ok, Err, length, take, flat_map}
use Rattle.std.specs.Fmt.{decimal, signed_decimal, digit_glyph}
use Rattle.spans.specs.Bytes.{index_of}
use Rattle.rules.specs.Words.{bytes}
use Rattle.rules.specs.Listing.{letter}
use Rattle.refusals.specs.Numbers.{number_of}
use Rattle.refusals.specs.declared.Refusal.{Refusal}
use Rattle.refusals.specs.declared.Refusal.TheVariants as R
use Rattle.kinds.specs.Views.{kind_of}
use Rattle.kinds.specs.declared.Kind.{Kind}
use Rattle.kinds.specs.declared.Packed.{Packed}
use Rattle.field_table.specs.declared.Entry.{Entry}
use Rattle.field_table.specs.declared.Looked.{Looked}
use Rattle.field_table.specs.declared.Looked.TheVariants as L
use Rattle.script.specs.declared.table_answers.Told.{Told}
use Rattle.script.specs.declared.table_answers.Told.TheVariants as T
use Rattle.script.specs.Weighing.{weights_from}

-- ---- a row

-- a row up to its line end
abbrev pub line_text : List ℕ → List ℕ
line_text row = take (index_of 10 row) row

abbrev pub remark_text : List ℕ → List ℕ
remark_text row = line_text row ++ 10 ∷ []

-- `ROW = unread`, and the line end
abbrev pub unread_text : List ℕ → List ℕ
unread_text row = line_text row ++ bytes " = unread" ++ 10 ∷ []

-- `ROW = `
abbrev pub asked_text : List ℕ → List ℕ
asked_text row = line_text row ++ bytes " = "

-- ---- a buffer

-- a byte in two hexadecimal digits
abbrev pub two_digits : ℕ → List ℕ
two_digits b = digit_glyph false (b / 16) ∷ digit_glyph false (b % 16) ∷ []

-- byte for byte up to 40, and else the length and the sum that stands for the bytes
unfoldable pub shown_text : List ℕ → List ℕ
shown_text s = cond (leb (length s) 40) (flat_map two_digits s) (decimal (length s) ++ (bytes " bytes, sum " ++ decimal (weights_from 1 s % 4294967296)))

-- ` [BUFFER]`, and the line end
abbrev pub buffer_text : List ℕ → List ℕ
buffer_text s = bytes " [" ++ shown_text s ++ bytes "]" ++ 10 ∷ []

-- ---- an answer

abbrev pub letter_text : Kind → List ℕ
letter_text k = letter (kind_of k) ∷ []

-- `K YEAR WORD`
abbrev pub dated_text : Kind → Packed → List ℕ
dated_text k d = letter_text k ++ bytes " " ++ signed_decimal d.year ++ bytes " " ++ decimal d.word

-- `K FIELD YEAR WORD`
abbrev pub field_dated_text : Kind → ℕ → Packed → List ℕ
field_dated_text k field d = letter_text k ++ bytes " " ++ decimal field ++ bytes " " ++ signed_decimal d.year ++ bytes " " ++ decimal d.word

-- `FIELD K`
abbrev pub declared_text : Entry → List ℕ
declared_text e = decimal e.field ++ bytes " " ++ letter_text e.kind

-- a space and the place of the record, where the refusal has one
abbrev pub place_text : Refusal → List ℕ
place_text (R.BadRecord place) = bytes " " ++ decimal place
place_text (R.FieldOrMark place) = bytes " " ++ decimal place
place_text r = []

-- `refused N`, and the place
abbrev pub refused_text : Refusal → List ℕ
refused_text r = bytes "refused " ++ decimal (number_of r) ++ place_text r

-- `declared K YEAR WORD`, or `guessed K YEAR WORD`
abbrev pub looked_text : Looked → List ℕ
looked_text (L.Declared k d) = bytes "declared " ++ dated_text k d
looked_text (L.Guessed k d) = bytes "guessed " ++ dated_text k d

abbrev pub told_text : Result Told Refusal → List ℕ
told_text (Ok T.Done) = bytes "done"
told_text (Ok (T.Number n)) = decimal n
told_text (Ok (T.Entry e)) = declared_text e
told_text (Ok (T.Dated found)) = looked_text found
told_text (Err r) = refused_text r

-- `ROW = ANSWER [BUFFER]`, and the line end
abbrev pub table_text : List ℕ → Result Told Refusal → List ℕ → List ℕ
table_text row told s = asked_text row ++ told_text told ++ buffer_text s
