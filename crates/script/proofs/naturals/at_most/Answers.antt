-- By whether the number fits.
use Rattle.std.proofs.Common.{arith}
use borrow.Author.Tests.{le-leb, lt-leb}
use Rattle.rules.proofs.Shared.Rests.{past}
use Rattle.rows.specs.Views.{nowhere}
use Rattle.script.specs.Naturals.{natural_up_to}
use Rattle.script.proofs.naturals.at_most.Goals as goal

pub returns-then-most-up-clause-value : goal.returns-then-most-up-clause-value
unfolding natural_up_to
returns-then-most-up-clause-value c =
    rw (past c.args.row.now nowhere (omega arith), ← c.natural-up.ensures, lt-leb _ _ c.if-most-up.true)

pub returns-clause-value : goal.returns-clause-value
unfolding natural_up_to
returns-clause-value c = rw (← c.natural-up.ensures, le-leb _ _ c.if-most-up.false)
