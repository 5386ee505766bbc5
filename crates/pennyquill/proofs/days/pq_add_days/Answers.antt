-- `pennyquill::days::pq_add_days` meets its contract: no refusal of a sum has a place. Assumes nothing.
use Rattle.pennyquill.proofs.Sizes.{small-fits, sum-place}
use Rattle.pennyquill.proofs.days.pq_add_days.Goals as goal

pub dated-requires : goal.dated-requires
dated-requires c = small-fits (rw c.add_days.ensures (sum-place _ _ _))
