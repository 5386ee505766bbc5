-- `pennyquill::hours::added` meets its contract: no refusal of a sum has a place. Assumes nothing.
use Rattle.pennyquill.proofs.Sizes.{small-fits, count-place}
use Rattle.pennyquill.proofs.hours.added.Goals as goal

pub dated-requires : goal.dated-requires
dated-requires c = small-fits (rw c.add.ensures (count-place _ _ _ _))
