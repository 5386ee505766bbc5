-- Were what the lines from here on print written from here on, the buffer would hold the whole, and would be filled to its length.
-- Assumes nothing.
use Rattle.std.proofs.Common.{length, drop, ◌+◌, ◌-◌, ◌≡◌}
use Rattle.digits.specs.Places.{placed}
use Rattle.listing.specs.Views.{printed}
use Rattle.listing.proofs.PassLaws.{Left}
use Rattle.listing.proofs.passes.put_lines.Given as goal

abbrev pub invariant-loop-from : goal.invariant-loop-from
invariant-loop-from l =
    Left (printed (drop l.from l.s)) l.filled l.out (placed (printed l.s) l.initial.out) × (length l.out ≡ length l.initial.out) × (l.filled + length (printed (drop l.from l.s)) ≡ length (printed l.s))

-- what is left of the input
abbrev pub decreases-loop-from : goal.decreases-loop-from
decreases-loop-from l = length l.s - l.from
