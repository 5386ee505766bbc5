-- The first record of the kind, or one more.
use borrow.Author.Tests.{eq-eqb, ne_eqb}
use Rattle.gap_report.specs.Walk.{counted}
use Rattle.gap_report.proofs.tally.counted.Goals as goal

pub returns-then-t-eq0-clause-result_value : goal.returns-then-t-eq0-clause-result_value
unfolding counted
returns-then-t-eq0-clause-result_value c = rw (eq-eqb c.args.t.count 0 c.if-t-eq0.true) c.begun.ensures.result_value

pub returns-clause-result_value : goal.returns-clause-result_value
unfolding counted
returns-clause-result_value c = rw (ne_eqb c.args.t.count 0 c.if-t-eq0.false) c.added.ensures.result_value
