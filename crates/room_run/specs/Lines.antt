-- What a row of a script says: `compare/README.md` has the rows. Assumes nothing.
use Rattle.std.specs.Prelude.{ℕ, not, cond, ◌&&◌, List, eqb, length, take, drop}
use Rattle.spans.specs.Bytes.{index_of}
use Rattle.rules.specs.Words.{bytes, byte}
use Rattle.rules.specs.Text.{Read, at_end}
use Rattle.rows.specs.Rows.{Number, first_byte, after_byte, after_word, ends_row, natural_of}
use Rattle.script.specs.Naturals.{natural_up_to}
use Rattle.room_run.specs.declared.lines.Line.{Line}
use Rattle.room_run.specs.declared.lines.Line.TheVariants as L

-- a text goes up to the line end
abbrev pub text_of : List ℕ → List ℕ
text_of s = take (index_of 10 s) s

abbrev pub after_text : List ℕ → List ℕ
after_text s = drop (index_of 10 s) s

-- a line, where a row begins with a word and its rest is its line end and nothing else; or else another
unfoldable pub worded_or : List ℕ → List ℕ → List ℕ → Line → Line → Line
worded_or word s rest line other = cond (ends_row rest && not (at_end (after_word word s))) line other

-- by what follows the first five bytes: a text, a number, a number and a byte
abbrev pub words_of : List ℕ → List ℕ → Number → Read ℕ → Line
words_of s t n b =
    worded_or (bytes "list ") s b.rest (L.List n.up b.value)
    (worded_or (bytes "room ") s n.rest (L.Room n.up)
    (worded_or (bytes "ends ") s n.rest (L.Put (length s) n.up)
    (worded_or (bytes "part ") s (after_text t) (L.Put 5 0)
    (worded_or (bytes "line ") s (after_text t) (L.Put 5 1)
    (worded_or (bytes "clear") s t L.Clear L.Unread)))))

abbrev pub numbers_of : List ℕ → List ℕ → Number → Line
numbers_of s t n = words_of s t n (natural_up_to 255 (after_byte (byte " ") n.rest))

unfoldable pub line_of : List ℕ → Line
line_of s = cond (eqb (first_byte s) (byte "#")) L.Remark (numbers_of s (drop 5 s) (natural_of (drop 5 s)))
