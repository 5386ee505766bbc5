-- One entry more.
use Rattle.std.proofs.Common.{arith}
use Rattle.requests.specs.Leagues.{of_first}
use Rattle.requests.proofs.OnLaid.StoreLaws.{ones_none, ones-more}
use Rattle.league_table.proofs.Moved.{first-long}
use Rattle.league_table.proofs.moves.put_all.Goals as goal

pub loop-i-init : goal.loop-i-init
loop-i-init c = ones_none of_first 3 4 first-long c.args.from.now c.args.to.now

pub loop-i-preserved : goal.loop-i-preserved
loop-i-preserved c =
    let l = c.loop-i in
    ones-more of_first 3 4 first-long c.args.from.now l.i c.args.to.now _ _ (omega arith) l.invariant c.put_first.ensures
