-- `formatter::styles::dotted_hour` meets its contract. Assumes nothing.
use borrow.Author.Tests.{eq-eqb, ne_eqb}
use Rattle.rules.specs.Spelling.{dotted_hour}
use Rattle.formatter.specs.Pieces.{separated}
use Rattle.formatter.proofs.styles.dotted_hour.Goals as goal

pub returns-then-hour-eq0-clause-result_value : goal.returns-then-hour-eq0-clause-result_value
unfolding dotted_hour
returns-then-hour-eq0-clause-result_value c = rw (eq-eqb _ 0 c.if-hour-eq0.true)

pub returns-clause-result_value : goal.returns-clause-result_value
unfolding separated dotted_hour
returns-clause-result_value c = rw (ne_eqb _ 0 c.if-hour-eq0.false)
