-- `iso_reading::next_number` meets its contract: by whether there is a byte at the place. Assumes nothing.
use Rattle.rules.specs.Text.{one_or_two}
use Rattle.rules.proofs.Shared.Rests.{past}
use Rattle.iso_reading.proofs.next_number.Goals as goal

pub returns-in_err-get : goal.returns-in_err-get
unfolding one_or_two
returns-in_err-get c = rw (past _ _ c.in_err-get.ensures.lookup.3, c.from_residual.ensures)
