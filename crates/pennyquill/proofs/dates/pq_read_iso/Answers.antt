-- `pennyquill::dates::pq_read_iso` meets its contract: no refusal of a text has a place. Assumes nothing.
use Rattle.pennyquill.proofs.Sizes.{small-fits, iso-place}
use Rattle.pennyquill.proofs.dates.pq_read_iso.Goals as goal

pub dated-requires : goal.dated-requires
dated-requires c = small-fits (rw c.parse_iso.ensures (iso-place _ _))
