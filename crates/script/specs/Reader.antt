-- What a reader of a row has left of it, and what it reads there. Assumes nothing.
use Rattle.std.specs.Prelude.{ℕ, Bool, cond, ◌&&◌, List, [], leb, ℤ, pos, drop}
use Rattle.std.proofs.Math.IntN.{sub_ℕ}
use Rattle.rules.specs.Words.{byte}
use Rattle.rules.specs.Text.{Read}
use Rattle.rows.specs.Rows.{Number, after_byte, signed_of}
use Rattle.script.specs.declared.reader.Reader.{Reader}

-- what is left of the row
abbrev pub left : Reader → List ℕ
left r = drop r.at r.row.now

-- what follows a space, which must stand first
abbrev pub spaced : List ℕ → List ℕ
spaced s = after_byte (byte " ") s

-- up - dn is a number of 16 bits
abbrev pub fits_year : Number → Bool
fits_year n = leb n.up 32767 && leb n.dn 32768

-- another leaves nothing
abbrev pub year : Number → Read ℤ
year n = cond (fits_year n) (record { value = sub_ℕ n.up n.dn; rest = n.rest }) (record { value = pos 0; rest = [] })

unfoldable pub year_of : List ℕ → Read ℤ
year_of s = year (signed_of s)
