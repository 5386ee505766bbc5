-- `pennyquill::versions::pq_any_book_record` meets its contract: its number fits 32 bits. Assumes nothing.
use Rattle.requests.specs.Both.{both}
use Rattle.pennyquill.proofs.Sizes.{small-fits}
use Rattle.pennyquill.proofs.BookSizes.{either, record-small}
use Rattle.pennyquill.proofs.versions.pq_any_book_record.Goals as goal

pub record_crossed-requires : goal.record_crossed-requires
record_crossed-requires c = small-fits (rw c.record_at.ensures (record-small (both c.args.book.now) (either c.args.book.now) c.args.book.now _))
