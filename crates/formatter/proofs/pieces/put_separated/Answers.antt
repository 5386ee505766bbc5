-- `formatter::pieces::put_separated` meets its contract: two digits go into the part after the separator. Assumes nothing.
use native.Mathlib.Omega.{arith}
use lib.ListN.{length-drop}
use Rattle.rules.proofs.OnSpelling.WriteLaws.{tail-lent}
use Rattle.formatter.proofs.PieceLaws.{two-room}
use Rattle.formatter.proofs.pieces.put_separated.Goals as goal

pub put_two-requires : goal.put_two-requires
put_two-requires c =
    let r = two-room _ _ _ c.requires.0 c.takes_two.ensures c.if-takes_two.true c.requires.1 in
    (c.requires.0, rw (tail-lent c.args.out.now 1, length-drop) (omega arith))
