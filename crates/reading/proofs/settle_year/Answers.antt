-- `reading::settle_year` meets its contract: a year that 16 bits do not hold is no date's. Assumes nothing.
use mathlib.Core.Path.{sym}
use mir.Syntax.{w64}
use mir.Facts.{to_z-of_z}
use Rattle.kinds.specs.Views.{kind_of}
use Rattle.reading.proofs.Laws.{too-low, too-high, year-refused}
use Rattle.reading.proofs.settle_year.Goals as goal

pub returns-then-year-ltminus32768 : goal.returns-then-year-ltminus32768
returns-then-year-ltminus32768 c =
    sym (year-refused (kind_of c.args.kind) _ (too-low c.args.year 32768 32767 (rw (to_z-of_z {w = w64} c.ranges.year) at c.if-year-ltminus32768.true)))

pub returns-then-year-gt32767 : goal.returns-then-year-gt32767
returns-then-year-gt32767 c =
    sym (year-refused (kind_of c.args.kind) _ (too-high c.args.year 32768 32767 (rw (to_z-of_z {w = w64} c.ranges.year) at c.if-year-gt32767.true)))
