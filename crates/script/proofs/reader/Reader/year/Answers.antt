-- By whether the year fits.
use Rattle.std.proofs.Common.{◌∙◌, w16, arith}
use borrow.Author.Tests.{le-leb, lt-leb}
use Rattle.sign.proofs.Bits.{held}
use Rattle.rules.proofs.Shared.Rests.{past}
use Rattle.rows.specs.Views.{nowhere}
use Rattle.script.specs.Reader.{year_of}
use Rattle.script.proofs.reader.Reader.year.Goals as goal
use Rattle.script.proofs.reader.Reader.year.Goals.{then-up-gt32767-via-then-up-gt32767, then-up-gt32767-via-else-up-gt32767+then-dn-gt32768}

pub returns-then-up-gt32767-clause-value : goal.returns-then-up-gt32767-clause-value
unfolding year_of
returns-then-up-gt32767-clause-value c =
    elim c.then-up-gt32767.branch [
      | then-up-gt32767-via-then-up-gt32767 w ↦ rw (← c.spaced.ensures, ← c.signed-up.ensures, lt-leb _ _ w.if-up-gt32767.true)
      | then-up-gt32767-via-else-up-gt32767+then-dn-gt32768 w ↦
          rw (← c.spaced.ensures, ← c.signed-up.ensures, le-leb _ _ w.if-up-gt32767.false, lt-leb _ _ w.if-dn-gt32768.true)
    ]

pub returns-then-up-gt32767-clause-rest : goal.returns-then-up-gt32767-clause-rest
unfolding year_of
returns-then-up-gt32767-clause-rest c =
    elim c.then-up-gt32767.branch [
      | then-up-gt32767-via-then-up-gt32767 w ↦
          rw (past c.args.self.now.row.now nowhere (omega arith), ← c.spaced.ensures, ← c.signed-up.ensures, lt-leb _ _ w.if-up-gt32767.true)
      | then-up-gt32767-via-else-up-gt32767+then-dn-gt32768 w ↦
          rw (past c.args.self.now.row.now nowhere (omega arith), ← c.spaced.ensures, ← c.signed-up.ensures, le-leb _ _ w.if-up-gt32767.false, lt-leb _ _ w.if-dn-gt32768.true)
    ]

pub returns-clause-value : goal.returns-clause-value
unfolding year_of
returns-clause-value c =
    rw (← c.spaced.ensures, ← c.signed-up.ensures, le-leb _ _ c.if-up-gt32767.false, le-leb _ _ c.if-dn-gt32768.false) (held w16 c.int.type_inv ∙ c.int.ensures)

pub returns-clause-rest : goal.returns-clause-rest
unfolding year_of
returns-clause-rest c =
    rw (← c.spaced.ensures, ← c.signed-up.ensures, le-leb _ _ c.if-up-gt32767.false, le-leb _ _ c.if-dn-gt32768.false)
