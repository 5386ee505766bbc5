-- `pennyquill::tables::pq_table_remove` meets its contract: its number fits 32 bits. Assumes nothing.
use Rattle.pennyquill.proofs.Sizes.{small-fits}
use Rattle.pennyquill.proofs.TableLaws.{removed-small}
use Rattle.pennyquill.proofs.tables.pq_table_remove.Goals as goal

pub counted-requires : goal.counted-requires
counted-requires c = small-fits (rw c.remove.ensures.result_value (removed-small _ _))
