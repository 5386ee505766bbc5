-- By whether the row ends there, and whether anything follows the word.
use Rattle.rules.proofs.Shared.Rests.{here, past}
use Rattle.room_run.specs.Lines.{worded_or}
use Rattle.room_run.proofs.lines.worded.Goals as goal
use Rattle.room_run.proofs.lines.worded.Goals.{else-ends-via-then-ends+else-after_word-row, else-ends-via-else-ends}

pub returns-then-after_word-row : goal.returns-then-after_word-row
unfolding worded_or
returns-then-after_word-row c =
    rw (← c.ends.ensures, c.if-ends.true, ← c.after_word.ensures, here c.args.row.now c.after_word.result c.if-after_word-row.true)

pub returns-else-ends : goal.returns-else-ends
unfolding worded_or
returns-else-ends c =
    elim c.else-ends.branch [
      | else-ends-via-then-ends+else-after_word-row w ↦
          rw (← c.ends.ensures, w.if-ends.true, ← w.after_word.ensures, past c.args.row.now w.after_word.result w.if-after_word-row.false)
      | else-ends-via-else-ends w ↦ rw (← c.ends.ensures, w.if-ends.false)
    ]
