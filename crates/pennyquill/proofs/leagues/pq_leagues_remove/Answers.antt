-- `pennyquill::leagues::pq_leagues_remove` meets its contract: its number fits 32 bits. Assumes nothing.
use Rattle.pennyquill.proofs.Sizes.{small-fits}
use Rattle.pennyquill.proofs.LeagueSizes.{own-removed-small}
use Rattle.pennyquill.proofs.leagues.pq_leagues_remove.Goals as goal

pub counted-requires : goal.counted-requires
counted-requires c = small-fits (rw c.remove.ensures.result_value (own-removed-small _ _ _))
