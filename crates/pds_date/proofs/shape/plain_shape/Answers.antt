use native.Mathlib.Omega.{arith}
use borrow.Author.Tests.{eq-eqb, ne_eqb}
use mathlib.Core.Path.{sym}
use Rattle.pds_date.proofs.Shapes.{of-length, too-short, too-long}
use Rattle.pds_date.proofs.shape.plain_shape.Goals as goal

pub returns-then-s-ne43 : goal.returns-then-s-ne43
returns-then-s-ne43 c = rw (of-length c.args.s.now (omega arith) (omega arith), ne_eqb _ 43 c.if-s-ne43.true)

pub returns-else-s-ne43 : goal.returns-else-s-ne43
returns-else-s-ne43 c = rw (of-length c.args.s.now (omega arith) (omega arith), eq-eqb _ 43 c.if-s-ne43.false) c.plus_allowed.ensures

pub returns-in_default : goal.returns-in_default
returns-in_default c = sym (too-short c.args.s.now (omega arith))

pub returns-in_default-2 : goal.returns-in_default-2
returns-in_default-2 c = sym (too-long c.args.s.now (omega arith))
