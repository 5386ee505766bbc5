-- `formatter::pieces::separated_length` meets its contract. Assumes nothing.
use Rattle.rules.proofs.OnSpelling.DecimalLaws.{filled-two}
use Rattle.formatter.proofs.pieces.separated_length.Goals as goal

pub returns-then-takes_two-clause-value : goal.returns-then-takes_two-clause-value
returns-then-takes_two-clause-value c = rw (c.takes_two.ensures, c.if-takes_two.true, filled-two _ c.requires)
