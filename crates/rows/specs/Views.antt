-- The code's types, as what a row says: a place stands for the rest of the row from there. Assumes nothing.
use Rattle.std.specs.Prelude.{ℕ, List, ℤ, drop}
use Rattle.rules.specs.Text.{Read}
use Rattle.rows.specs.Rows as R
use Rattle.rows.specs.declared.Number.{Number}
use Rattle.rows.specs.declared.Whole.{Whole}

-- a place past the end of every slice
abbrev pub nowhere : ℕ
nowhere = 18446744073709551615

abbrev pub number_as : List ℕ → Number → R.Number
number_as s n = record { up = n.up; dn = n.dn; rest = drop n.next s }

abbrev pub whole_as : List ℕ → Whole → Read ℤ
whole_as s w = record { value = w.value; rest = drop w.next s }
