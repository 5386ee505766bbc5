-- `pennyquill::versions::pq_book_to_2` meets its contract: its number fits 32 bits. Assumes nothing.
use Rattle.rules.specs.Book.{version1}
use Rattle.requests.specs.Moves.{upward}
use Rattle.pennyquill.proofs.Sizes.{small-fits}
use Rattle.pennyquill.proofs.BookSizes.{one, move-small}
use Rattle.pennyquill.proofs.versions.pq_book_to_2.Goals as goal

pub counted-requires : goal.counted-requires
counted-requires c = small-fits (rw c.to_2.ensures.result_value (move-small version1 one _ upward _))
