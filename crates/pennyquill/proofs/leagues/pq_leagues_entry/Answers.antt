-- `pennyquill::leagues::pq_leagues_entry` meets its contract: its number fits 32 bits. Assumes nothing.
use Rattle.pennyquill.proofs.Sizes.{small-fits}
use Rattle.pennyquill.proofs.LeagueSizes.{own-entry-small}
use Rattle.pennyquill.proofs.leagues.pq_leagues_entry.Goals as goal

pub entry_told-requires : goal.entry_told-requires
entry_told-requires c = small-fits (rw c.entry_at.ensures (own-entry-small _ _ _))
