-- The second only where it is longer.
use Rattle.std.proofs.Common.{sym, arith}
use Rattle.requests.proofs.OnGaps.StepLaws.{longer-one, longer-two}
use Rattle.gap_report.specs.Views.{step_as}
use Rattle.gap_report.proofs.tally.longer.Goals as goal

pub returns-then-t-s : goal.returns-then-t-s
returns-then-t-s c = sym (longer-one (step_as c.args.s) (step_as c.args.t) c.if-t-s.true)

pub returns-else-t-s : goal.returns-else-t-s
returns-else-t-s c = sym (longer-two (step_as c.args.s) (step_as c.args.t) (omega arith))
