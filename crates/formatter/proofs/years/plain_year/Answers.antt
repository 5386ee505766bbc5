-- `formatter::years::plain_year` meets its contract. Assumes nothing.
use mathlib.Core.Path.{◌∙◌}
use mir.Syntax.{w16}
use mir.Facts.{to_z-of_z}
use Rattle.formatter.proofs.PieceLaws.{plain-filled}
use Rattle.formatter.proofs.years.plain_year.Goals as goal

pub returns-clause-result_value : goal.returns-clause-result_value
returns-clause-result_value c =
    (rw (to_z-of_z {w = w16} c.ranges.year) at c.filled_year.ensures.result_value) ∙ plain-filled c.args.year
