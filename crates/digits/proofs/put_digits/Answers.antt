-- A digit less to be written, and none.
use Rattle.std.proofs.Common.{◌∙◌, arith}
use Rattle.digits.proofs.Places.{digit-less, digit-none, digits-length}
use Rattle.digits.proofs.put_digits.Goals as goal

pub loop-i-init : goal.loop-i-init
loop-i-init c = rw digits-length

pub loop-i-preserved : goal.loop-i-preserved
loop-i-preserved c = digit-less _ _ _ c.loop-i-test.true (omega arith) ∙ c.loop-i.invariant

pub returns : goal.returns
returns c = digit-none _ _ _ c.loop-i-test.false ∙ c.loop-i.invariant
