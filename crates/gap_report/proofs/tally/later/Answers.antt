-- The order of the two says which.
use Rattle.requests.specs.Gaps.{later}
use Rattle.gap_report.proofs.tally.later.Goals as goal

pub returns-clause-result_value : goal.returns-clause-result_value
unfolding later
returns-clause-result_value c = rw c.order_of.ensures at c.chosen.ensures.result_value
