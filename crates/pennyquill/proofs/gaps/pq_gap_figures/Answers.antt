-- `pennyquill::gaps::pq_gap_figures` meets its contract: its number fits 32 bits. Assumes nothing.
use Rattle.pennyquill.proofs.Sizes.{small-fits}
use Rattle.pennyquill.proofs.GapSizes.{figures-small}
use Rattle.pennyquill.proofs.gaps.pq_gap_figures.Goals as goal

pub counted-requires : goal.counted-requires
counted-requires c = small-fits (rw c.figures.ensures.result_value (figures-small _ _))
