-- `pennyquill::tables::pq_table_declare` meets its contract: its number fits 32 bits. Assumes nothing.
use Rattle.pennyquill.proofs.Sizes.{small-fits}
use Rattle.pennyquill.proofs.TableLaws.{declared-small}
use Rattle.pennyquill.proofs.tables.pq_table_declare.Goals as goal

pub counted-requires : goal.counted-requires
counted-requires c = small-fits (rw c.declare.ensures.result_value (declared-small _ _ _))
