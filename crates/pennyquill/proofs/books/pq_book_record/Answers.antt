-- `pennyquill::books::pq_book_record` meets its contract: its number fits 32 bits. Assumes nothing.
use Rattle.rules.specs.Book.{version1}
use Rattle.requests.specs.Both.{fieldless}
use Rattle.pennyquill.proofs.Sizes.{small-fits}
use Rattle.pennyquill.proofs.BookSizes.{one, told-small}
use Rattle.pennyquill.proofs.books.pq_book_record.Goals as goal

pub record_crossed-requires : goal.record_crossed-requires
record_crossed-requires c = small-fits (rw c.record_at.ensures (told-small version1 one _ fieldless _))
