-- `formatter::styles::iso_hour_before` meets its contract. Assumes nothing.
use borrow.Author.Tests.{ne_eqb}
use Rattle.formatter.specs.Pieces.{separated}
use Rattle.formatter.proofs.styles.iso_hour_before.Goals as goal

pub returns-clause-result_value : goal.returns-clause-result_value
unfolding separated
returns-clause-result_value c = rw (ne_eqb _ 0 c.if-hour-eq0.false)
