-- `pennyquill::leagues::pq_leagues_from_table` meets its contract: its number fits 32 bits. Assumes nothing.
use Rattle.pennyquill.proofs.Sizes.{small-fits}
use Rattle.pennyquill.proofs.LeagueSizes.{moved-small}
use Rattle.pennyquill.proofs.leagues.pq_leagues_from_table.Goals as goal

pub counted-requires : goal.counted-requires
counted-requires c = small-fits (rw c.from_table.ensures.result_value (moved-small _ _))
