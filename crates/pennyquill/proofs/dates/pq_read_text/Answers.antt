-- `pennyquill::dates::pq_read_text` meets its contract: no refusal of a text has a place. Assumes nothing.
use Rattle.pennyquill.proofs.Sizes.{small-fits, text-place}
use Rattle.pennyquill.proofs.dates.pq_read_text.Goals as goal

pub dated-requires : goal.dated-requires
dated-requires c = small-fits (rw c.parse.ensures (text-place _ _))
