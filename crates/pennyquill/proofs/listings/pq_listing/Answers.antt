-- `pennyquill::listings::pq_listing` meets its contract: its number fits 32 bits. Assumes nothing.
use Rattle.pennyquill.proofs.Sizes.{fits-32}
use Rattle.pennyquill.proofs.ListingSizes.{listing-small}
use Rattle.pennyquill.proofs.listings.pq_listing.Goals as goal

pub counted-requires : goal.counted-requires
counted-requires c = fits-32 (rw c.list.ensures.result_value (listing-small _ _))
