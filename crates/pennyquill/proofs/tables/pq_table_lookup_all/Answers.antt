-- `pennyquill::tables::pq_table_lookup_all` meets its contract: no more are asked than 32 bits hold. Assumes nothing.
use Rattle.pennyquill.proofs.TableLaws.{lookups-small}
use Rattle.pennyquill.proofs.tables.pq_table_lookup_all.Goals as goal

pub counted-requires : goal.counted-requires
counted-requires c = rw c.lookup_all.ensures.value (lookups-small _ _ _ _ _)
