-- `pennyquill::versions::pq_book_to_1` meets its contract: its number fits 32 bits. Assumes nothing.
use Rattle.requests.specs.Second.{version2}
use Rattle.requests.specs.Moves.{downward}
use Rattle.pennyquill.proofs.Sizes.{small-fits}
use Rattle.pennyquill.proofs.BookSizes.{two, move-small}
use Rattle.pennyquill.proofs.versions.pq_book_to_1.Goals as goal

pub counted-requires : goal.counted-requires
counted-requires c = small-fits (rw c.to_1.ensures.result_value (move-small version2 two _ downward _))
