-- What the fast path answers is what the plain reader answers. Assumes nothing.
use Rattle.fast_date.proofs.Eight.{quick-is}
use Rattle.date.proofs.DatePdsDate.parse.Goals as goal

pub returns-in-Some-Some : goal.returns-in-Some-Some
returns-in-Some-Some c = rw c.in-Some-Some.field-0-is at (quick-is _ _ c.in-Some-Some.ensures)

pub returns-in-Some-None : goal.returns-in-Some-None
returns-in-Some-None c = rw c.in-Some-None.field-0-is at (quick-is _ _ c.in-Some-None.ensures)
