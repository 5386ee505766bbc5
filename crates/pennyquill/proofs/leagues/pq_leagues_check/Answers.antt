-- `pennyquill::leagues::pq_leagues_check` meets its contract: its number fits 32 bits. Assumes nothing.
use Rattle.pennyquill.proofs.Sizes.{small-fits}
use Rattle.pennyquill.proofs.LeagueSizes.{own-checked-small}
use Rattle.pennyquill.proofs.leagues.pq_leagues_check.Goals as goal

pub counted-requires : goal.counted-requires
counted-requires c = small-fits (rw c.check.ensures (own-checked-small _ _))
