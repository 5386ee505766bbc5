-- `pennyquill::listings::pq_listing_room` meets its contract: its number fits 32 bits. Assumes nothing.
use Rattle.pennyquill.proofs.Sizes.{fits-32}
use Rattle.pennyquill.proofs.ListingSizes.{room_small}
use Rattle.pennyquill.proofs.listings.pq_listing_room.Goals as goal

pub counted-requires : goal.counted-requires
counted-requires c = fits-32 (rw c.room_for.ensures (room_small _))
