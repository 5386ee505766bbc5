-- What is measured, and what the lines from here on print, make the whole. Assumes nothing.
use Rattle.std.proofs.Common.{length, drop, ◌+◌, ◌-◌, ◌≡◌}
use Rattle.listing.specs.Views.{printed}
use Rattle.listing.proofs.passes.measure.Given as goal

abbrev pub invariant-loop-at : goal.invariant-loop-at
invariant-loop-at l = (l.total + length (printed (drop l.at l.s)) ≡ length (printed l.s)) × (length l.room ≡ 40)

-- what is left of the input
abbrev pub decreases-loop-at : goal.decreases-loop-at
decreases-loop-at l = length l.s - l.at
