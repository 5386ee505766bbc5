-- `pennyquill::versions::pq_any_book_check` meets its contract: its number fits 32 bits. Assumes nothing.
use Rattle.requests.specs.Both.{both}
use Rattle.pennyquill.proofs.Sizes.{small-fits}
use Rattle.pennyquill.proofs.BookSizes.{either, check-small}
use Rattle.pennyquill.proofs.versions.pq_any_book_check.Goals as goal

pub counted-requires : goal.counted-requires
counted-requires c = small-fits (rw c.check.ensures (check-small (both c.args.book.now) (either c.args.book.now) c.args.book.now))
