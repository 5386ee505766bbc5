-- `pennyquill::tables::pq_table_check` meets its contract: its number fits 32 bits. Assumes nothing.
use Rattle.pennyquill.proofs.Sizes.{small-fits}
use Rattle.pennyquill.proofs.TableLaws.{checked-small}
use Rattle.pennyquill.proofs.tables.pq_table_check.Goals as goal

pub counted-requires : goal.counted-requires
counted-requires c = small-fits (rw c.check.ensures (checked-small _))
