-- `pennyquill::versions::pq_book2_new` meets its contract: its number fits 32 bits. Assumes nothing.
use Rattle.pennyquill.proofs.Sizes.{small-fits}
use Rattle.pennyquill.proofs.BookSizes.{new-small}
use Rattle.pennyquill.proofs.versions.pq_book2_new.Goals as goal

pub started-requires : goal.started-requires
started-requires c = small-fits (rw c.new.ensures.result_value (new-small _))
