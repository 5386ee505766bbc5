-- No row, one with its line end, or a last one without.
use Rattle.std.proofs.Common.{arith}
use Rattle.rows.proofs.Laws.{row_from}
use Rattle.rows.proofs.next_line.Goals as goal

pub returns-then-s-from-clause-value : goal.returns-then-s-from-clause-value
returns-then-s-from-clause-value c = let r = row_from c.args.s.now c.args.from in omega arith

pub returns-then-end-s-clause-value : goal.returns-then-end-s-clause-value
returns-then-end-s-clause-value c = let r = row_from c.args.s.now c.args.from in omega (arith, c.find-end.ensures.value)

pub returns-else-end-s-clause-value : goal.returns-else-end-s-clause-value
returns-else-end-s-clause-value c = let r = row_from c.args.s.now c.args.from in omega (arith, c.find-end.ensures.value)
