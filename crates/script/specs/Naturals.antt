-- Numbers of a line that are at most so great, read as those of `rows` are; the code's type stands for what it read. Assumes nothing.
use Rattle.std.specs.Prelude.{ℕ, cond, List, [], leb, drop}
use Rattle.rules.specs.Text.{Read}
use Rattle.rows.specs.Rows.{Number, natural_of}
use Rattle.script.specs.declared.naturals.Part.{Part}

-- a greater one leaves nothing
abbrev pub up_to : ℕ → Number → Read ℕ
up_to most n = cond (leb n.up most) (record { value = n.up; rest = n.rest }) (record { value = 0; rest = [] })

unfoldable pub natural_up_to : ℕ → List ℕ → Read ℕ
natural_up_to most s = up_to most (natural_of s)

-- a place stands for the rest of the row from there
abbrev pub part_as : List ℕ → Part ℕ → Read ℕ
part_as s p = record { value = p.value; rest = drop p.next s }
