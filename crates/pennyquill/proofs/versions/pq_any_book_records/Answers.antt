-- `pennyquill::versions::pq_any_book_records` meets its contract: its number fits 32 bits. Assumes nothing.
use Rattle.pennyquill.proofs.Sizes.{small-fits}
use Rattle.pennyquill.proofs.BookSizes.{walk-small}
use Rattle.pennyquill.proofs.versions.pq_any_book_records.Goals as goal

pub counted-requires : goal.counted-requires
counted-requires c = small-fits (rw c.records.ensures.result_value (walk-small _ _ _))
