-- `pennyquill::gaps::pq_gap_report` meets its contract: its number fits 32 bits. Assumes nothing.
use Rattle.pennyquill.proofs.Sizes.{small-fits}
use Rattle.pennyquill.proofs.GapSizes.{report-small}
use Rattle.pennyquill.proofs.gaps.pq_gap_report.Goals as goal

pub counted-requires : goal.counted-requires
counted-requires c = small-fits (rw c.report.ensures.result_value (report-small _ _))
