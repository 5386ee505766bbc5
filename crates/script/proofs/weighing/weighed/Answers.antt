-- One weight more.
use Rattle.std.proofs.Common.{arith}
use Rattle.script.proofs.Weighed.{none, turn}
use Rattle.script.proofs.weighing.weighed.Goals as goal

pub loop-i-init : goal.loop-i-init
loop-i-init c = none c.args.buffer.now

pub loop-i-preserved : goal.loop-i-preserved
loop-i-preserved c =
    let l = c.loop-i in turn c.args.buffer.now l.sum l.i c.weight.result (omega (arith, c.loop-i-test.true)) l.invariant c.weight.ensures
