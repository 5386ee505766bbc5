-- From the place up to the line end.
use Rattle.std.proofs.Common.{◌≡◌, ◌-◌, drop, arith}
use Rattle.spans.specs.Bytes.{index_of}
use Rattle.rules.proofs.Shared.Rests.{past, to_end}
use Rattle.room_run.proofs.lines.text.Goals as goal

pub returns-then-row-from : goal.returns-then-row-from
unfolding index_of
returns-then-row-from c = rw (past c.args.row.now c.args.from (omega arith))

pub returns : goal.returns
returns c =
    let e : c.find-end.result - c.args.from ≡ index_of 10 (drop c.args.from c.args.row.now) = omega (arith, rw to_end at c.find-end.ensures.value) in rw e
