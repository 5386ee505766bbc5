-- By whether the number fits.
use Rattle.std.proofs.Common.{◌∙◌, w32, arith}
use borrow.Author.Tests.{le-leb, lt-leb}
use Rattle.sign.proofs.Bits.{held}
use Rattle.rules.proofs.Shared.Rests.{past}
use Rattle.rows.specs.Rows.{whole_of}
use Rattle.rows.specs.Views.{nowhere}
use Rattle.rows.proofs.Laws.{read_of}
use Rattle.rows.proofs.whole32.Goals as goal
use Rattle.rows.proofs.whole32.Goals.{else-up-le2147483647-via-then-up-le2147483647+else-dn-le2147483648, else-up-le2147483647-via-else-up-le2147483647}

pub returns-then-dn-le2147483648 : goal.returns-then-dn-le2147483648
unfolding whole_of
returns-then-dn-le2147483648 c =
    rw (← c.signed-up.ensures, le-leb _ _ c.if-up-le2147483647.true, le-leb _ _ c.if-dn-le2147483648.true) (read_of _ (held w32 c.int.type_inv ∙ c.int.ensures))

pub returns-else-up-le2147483647 : goal.returns-else-up-le2147483647
unfolding whole_of
returns-else-up-le2147483647 c =
    elim c.else-up-le2147483647.branch [
      | else-up-le2147483647-via-then-up-le2147483647+else-dn-le2147483648 w ↦
          rw (past c.args.s.now nowhere (omega arith), ← c.signed-up.ensures, le-leb _ _ w.if-up-le2147483647.true, lt-leb _ _ w.if-dn-le2147483648.false)
      | else-up-le2147483647-via-else-up-le2147483647 w ↦
          rw (past c.args.s.now nowhere (omega arith), ← c.signed-up.ensures, lt-leb _ _ w.if-up-le2147483647.false)
    ]
