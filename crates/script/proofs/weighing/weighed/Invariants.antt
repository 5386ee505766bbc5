-- The sum is that of the first i bytes.
use Rattle.std.proofs.Common.{◌≡◌, ◌%◌, take}
use Rattle.script.specs.Weighing.{weights_from}
use Rattle.script.proofs.weighing.weighed.Given as goal

abbrev pub invariant-loop-i : goal.invariant-loop-i
invariant-loop-i l = l.sum ≡ weights_from 1 (take l.i l.buffer) % 4294967296
