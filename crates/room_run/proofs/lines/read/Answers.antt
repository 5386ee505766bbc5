-- `room_run::lines::read` meets its contract: a remark by its first byte, and else by each word in turn. Assumes nothing.
use native.Mathlib.Omega.{arith}
use borrow.Author.Tests.{eq-eqb, ne_eqb}
use Rattle.spans.specs.Bytes.{index_of}
use Rattle.rules.proofs.Shared.Rests.{past}
use Rattle.rows.specs.Rows.{natural_of}
use Rattle.script.specs.Naturals.{natural_up_to}
use Rattle.room_run.specs.Lines.{line_of, worded_or}
use Rattle.room_run.proofs.Read.{text-ends, read_by}
use Rattle.room_run.proofs.lines.read.Goals as goal

pub returns-then-byte-eq35 : goal.returns-then-byte-eq35
unfolding line_of
returns-then-byte-eq35 c = rw (← c.byte.ensures, eq-eqb _ _ c.if-byte-eq35.true)

pub returns-then-row-lt-WORD : goal.returns-then-row-lt-WORD
unfolding line_of worded_or natural_of natural_up_to index_of
returns-then-row-lt-WORD c =
    rw (← c.byte.ensures, ne_eqb _ _ c.if-byte-eq35.false, past c.args.row.now 5 (omega arith))

pub returns : goal.returns
returns c =
    let e = text-ends c.args.row.now c.find-text.result c.find-text.ensures.value in rw (c.worded.ensures, c.worded-found-5.ensures, c.worded-found-4.ensures, c.worded-found-3.ensures, c.worded-found-2.ensures, c.worded-found.ensures, c.place_of-count.ensures, e) (read_by c.args.row.now _ _ c.after.result (rw (← c.byte.ensures) (ne_eqb _ _ c.if-byte-eq35.false)) c.natural-n.ensures c.after.ensures c.byte8-b.ensures)
