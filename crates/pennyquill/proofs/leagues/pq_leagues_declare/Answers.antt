-- `pennyquill::leagues::pq_leagues_declare` meets its contract: its number fits 32 bits. Assumes nothing.
use Rattle.pennyquill.proofs.Sizes.{small-fits}
use Rattle.pennyquill.proofs.LeagueSizes.{own-declared-small}
use Rattle.pennyquill.proofs.leagues.pq_leagues_declare.Goals as goal

pub counted-requires : goal.counted-requires
counted-requires c = small-fits (rw c.declare.ensures.result_value (own-declared-small _ _ _ _))
