-- What is printed of a date, and of the lines of an input. Assumes nothing.
use Rattle.std.specs.Prelude.{ℕ, List, ◌∷◌, ◌++◌, map}
use Rattle.rules.specs.Words.{bytes}
use Rattle.rules.specs.Kinds.{Kind, Fields}
use Rattle.rules.specs.Spelling.{dotted, iso}
use Rattle.rules.specs.Listing.{letter, line_end, line_output, lines, joined}

abbrev pub date_line : Kind → Fields → List ℕ
date_line k f = letter k ∷ bytes " " ++ dotted k f ++ bytes " " ++ iso k f ++ line_end

-- the outputs of all lines, one after the other
abbrev pub printed : List ℕ → List ℕ
printed input = joined (map line_output (lines input))
