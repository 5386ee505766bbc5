-- By whether a digit stands there.
use Rattle.std.proofs.Common.{arith}
use Rattle.rules.proofs.Shared.Rests.{past}
use Rattle.rows.specs.Rows.{natural_of}
use Rattle.rows.specs.Views.{nowhere}
use Rattle.rows.proofs.natural.Goals as goal

pub returns-then-digit_at : goal.returns-then-digit_at
unfolding natural_of
returns-then-digit_at c = rw (c.digits.ensures, ← c.if-digit_at.ensures)

pub returns-else-digit_at : goal.returns-else-digit_at
unfolding natural_of
returns-else-digit_at c = rw (past c.args.s.now nowhere (omega arith), ← c.if-digit_at.ensures)
