-- `formatter::years::year_length` meets its contract. Assumes nothing.
use Rattle.std.proofs.Common.{arith}
use Rattle.digits.proofs.Places.{digits-length}
use Rattle.formatter.specs.Pieces.{year_text}
use Rattle.formatter.proofs.years.year_length.Goals as goal

pub returns-in-Some-clause-value : goal.returns-in-Some-clause-value
unfolding year_text
returns-in-Some-clause-value c = rw (c.in-Some.is, digits-length _ _) (omega arith)

pub returns-in-None-clause-value : goal.returns-in-None-clause-value
unfolding year_text
returns-in-None-clause-value c = rw (c.in-None.is, digits-length _ _)
