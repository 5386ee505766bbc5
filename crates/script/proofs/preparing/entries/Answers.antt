-- Whether the fields have two bytes each, then whether the buffer has room for the entries.
use Rattle.std.proofs.Common.{arith}
use Rattle.script.proofs.Prepared.{entries_none, entries-turn, entries_fit_lem, entries_over, entries-short}
use Rattle.script.proofs.preparing.entries.Goals as goal
use Rattle.script.proofs.preparing.entries.Goals.{then-count-gt65536-via-then-count-gt65536, then-count-gt65536-via-else-count-gt65536+then-count-first, then-buffer-count-via-then-buffer-count, then-buffer-count-via-else-buffer-count+then-buffer-count-2}

pub returns-then-count-gt65536-clause-value : goal.returns-then-count-gt65536-clause-value
returns-then-count-gt65536-clause-value c =
    let a = c.args in
    elim c.then-count-gt65536.branch [
      | then-count-gt65536-via-then-count-gt65536 w ↦ entries_over a.place a.first a.count _ (omega (arith, w.if-count-gt65536.true))
      | then-count-gt65536-via-else-count-gt65536+then-count-first w ↦
          entries_over a.place a.first a.count _ (omega (arith, w.if-count-gt65536.false, w.if-count-first.true))
    ]

pub returns-then-buffer-count-clause-value : goal.returns-then-buffer-count-clause-value
returns-then-buffer-count-clause-value c =
    let a = c.args in
    elim c.then-buffer-count.branch [
      | then-buffer-count-via-then-buffer-count w ↦
          entries-short a.place a.first a.count _ (omega (arith, c.if-count-gt65536.false, c.if-count-first.false)) (omega (arith, w.if-buffer-count.true))
      | then-buffer-count-via-else-buffer-count+then-buffer-count-2 w ↦
          entries-short a.place a.first a.count _ (omega (arith, c.if-count-gt65536.false, c.if-count-first.false))
          (omega (arith, w.if-buffer-count.false, w.if-buffer-count-2.true))
    ]

pub loop-i-init : goal.loop-i-init
loop-i-init c = let a = c.args in entries_none a.buffer.now a.place a.first a.code

pub loop-i-preserved : goal.loop-i-preserved
loop-i-preserved c =
    let a = c.args in let l = c.loop-i in entries-turn a.buffer.now l.buffer a.place a.first a.code l.i l.invariant

pub returns-clause-value : goal.returns-clause-value
returns-clause-value c =
    let a = c.args in
    entries_fit_lem a.place a.first a.count _ (omega (arith, c.if-count-gt65536.false, c.if-count-first.false)) (omega (arith, c.if-buffer-count.false, c.if-buffer-count-2.false))
