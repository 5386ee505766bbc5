-- `formatter::pieces::takes_two` meets its contract. Assumes nothing.
use Rattle.formatter.proofs.PieceLaws.{separated-wide, separated-by}
use Rattle.formatter.proofs.pieces.takes_two.Goals as goal

pub returns-then-style : goal.returns-then-style
returns-then-style c = separated-wide _ _ c.if-style.true

pub returns : goal.returns
returns c = separated-by _ _ c.if-style.false c.requires
