-- `pennyquill::versions::pq_book2_record` meets its contract: its number fits 32 bits. Assumes nothing.
use Rattle.requests.specs.Second.{version2}
use Rattle.pennyquill.proofs.Sizes.{small-fits}
use Rattle.pennyquill.proofs.BookSizes.{two, record-small}
use Rattle.pennyquill.proofs.versions.pq_book2_record.Goals as goal

pub record_crossed-requires : goal.record_crossed-requires
record_crossed-requires c = small-fits (rw c.record_at.ensures (record-small version2 two _ _))
