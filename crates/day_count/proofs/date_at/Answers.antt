-- `day_count::date_at` meets its contract: what is judged of the number is the sum's own answer. Assumes nothing.
use Rattle.std.proofs.Common.{sym, ap, ◌∙◌, arith}
use Rattle.rules.specs.Refusals.{Gives}
use Rattle.refusals.proofs.RefusalLaws.{refusal-then, passed}
use Rattle.kinds.specs.Views.{bits_of}
use Rattle.day_count.proofs.Laws.{judged-range, judged-days, side-below, side-above}
use Rattle.day_count.proofs.date_at.Goals as goal

pub returns-in_err-judge : goal.returns-in_err-judge
returns-in_err-judge c =
    rw (judged-days _ c.args.hour c.judge.ensures c.in_err-judge.was) (passed bits_of _ _ c.from_residual.ensures ∙ sym (refusal-then _ _))

pub date_of-requires : goal.date_of-requires
date_of-requires c =
    let a = c.args in
    omega (arith, judged-range 11960684 11960319 a.up a.dn _ c.judge.ensures c.in_ok-judge.was, c.requires)

pub returns-then-up-dn : goal.returns-then-up-dn
returns-then-up-dn c =
    let a = c.args in
    let e = judged-days _ a.hour c.judge.ensures c.in_ok-judge.was in
    rw (e, ← (side-below a.up a.dn (omega arith))) (ap Gives c.date_of.ensures)

pub date_of-requires-2 : goal.date_of-requires-2
date_of-requires-2 c =
    let a = c.args in
    omega (arith, judged-range 11960684 11960319 a.up a.dn _ c.judge.ensures c.in_ok-judge.was, c.requires)

pub returns : goal.returns
returns c =
    let a = c.args in
    let e = judged-days _ a.hour c.judge.ensures c.in_ok-judge.was in
    rw (e, ← (side-above a.up a.dn (omega arith))) (ap Gives c.date_of-2.ensures)
