-- `pennyquill::versions::pq_book2_check` meets its contract: its number fits 32 bits. Assumes nothing.
use Rattle.requests.specs.Second.{version2}
use Rattle.pennyquill.proofs.Sizes.{small-fits}
use Rattle.pennyquill.proofs.BookSizes.{two, check-small}
use Rattle.pennyquill.proofs.versions.pq_book2_check.Goals as goal

pub counted-requires : goal.counted-requires
counted-requires c = small-fits (rw c.check.ensures (check-small version2 two _))
