-- `pennyquill::books::pq_book_check` meets its contract: its number fits 32 bits. Assumes nothing.
use Rattle.rules.specs.Book.{version1}
use Rattle.pennyquill.proofs.Sizes.{small-fits}
use Rattle.pennyquill.proofs.BookSizes.{one, check-small}
use Rattle.pennyquill.proofs.books.pq_book_check.Goals as goal

pub counted-requires : goal.counted-requires
counted-requires c = small-fits (rw c.check.ensures (check-small version1 one _))
