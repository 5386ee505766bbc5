-- A copy and zeros.
use Rattle.std.proofs.Common.{arith}
use Rattle.shifts.proofs.Pastes.{closed-by}
use Rattle.shifts.proofs.remove.Goals as goal

pub returns : goal.returns
returns c =
    let a = c.args in closed-by a.b.now _ _ a.at a.end a.k (omega arith) (omega arith) c.move_within.ensures c.zero.ensures
