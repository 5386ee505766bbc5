-- A copy and a store.
use Rattle.std.proofs.Common.{arith}
use Rattle.shifts.proofs.Pastes.{opened-by}
use Rattle.shifts.proofs.insert.Goals as goal

pub returns : goal.returns
returns c =
    let a = c.args in opened-by a.b.now a.v.now _ _ a.at a.end (omega arith) (omega arith) c.move_within.ensures c.put.ensures
