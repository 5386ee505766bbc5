-- What the digits from here on make of the value so far is what is to be answered, and the value fits.
use Rattle.std.proofs.Common.{◌≡◌, ◌≤◌, drop}
use Rattle.scalar.specs.Number.{most63, partial_of}
use Rattle.scalar.proofs.to_u64_partial.Given as goal

abbrev pub invariant-loop-at : goal.invariant-loop-at
invariant-loop-at l = record { left : partial_of l.value (drop l.at l.s) ≡ partial_of l.start (drop l.from l.s); fits : l.value ≤ most63 }
