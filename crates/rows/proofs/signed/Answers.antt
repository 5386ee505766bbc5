-- By whether a minus stands there.
use borrow.Author.Tests.{eq-eqb, ne_eqb}
use Rattle.rows.specs.Rows.{signed_of}
use Rattle.rows.proofs.signed.Goals as goal

pub returns-then-byte-ne45 : goal.returns-then-byte-ne45
unfolding signed_of
returns-then-byte-ne45 c = rw (c.natural.ensures, ← c.byte.ensures, ne_eqb _ _ c.if-byte-ne45.true)

pub returns : goal.returns
unfolding signed_of
returns c = rw (← c.byte.ensures, eq-eqb _ _ c.if-byte-ne45.false, ← c.after.ensures, ← c.natural-n.ensures)
