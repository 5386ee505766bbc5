-- The greater less the lesser.
use Rattle.std.proofs.Common.{arith}
use Rattle.gap_report.proofs.WalkLaws.{apart, abs-sub}
use Rattle.gap_report.proofs.tally.distance.Goals as goal

pub returns : goal.returns
returns c = rw (apart c.args.a c.args.b, abs-sub c.args.a c.args.b) (omega (arith, c.abs_diff.ensures))
