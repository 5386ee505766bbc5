-- `hour_count::date_at` meets its contract: what is judged of the number is the sum's own answer. Assumes nothing.
use Rattle.std.proofs.Common.{sym, ap, ◌∙◌, arith}
use Rattle.rules.specs.Refusals.{Gives}
use Rattle.refusals.proofs.RefusalLaws.{refusal-then, passed}
use Rattle.kinds.specs.Views.{kind_of, bits_of}
use Rattle.day_count.proofs.Laws.{judged-range}
use Rattle.hour_count.proofs.Laws.{judged-hours, since-is}
use Rattle.hour_count.proofs.date_at.Goals as goal

pub overflow_sub-up : goal.overflow_sub-up
overflow_sub-up c =
    let a = c.args in omega (arith, judged-range 243247680 330847679 a.up a.dn _ c.judge.ensures c.in_ok-judge.was)

pub date_after-requires : goal.date_after-requires
date_after-requires c =
    let a = c.args in omega (arith, judged-range 243247680 330847679 a.up a.dn _ c.judge.ensures c.in_ok-judge.was, c.requires)

pub returns-in_err-judge : goal.returns-in_err-judge
returns-in_err-judge c =
    rw (judged-hours (kind_of c.args.kind) _ c.judge.ensures c.in_err-judge.was) (passed bits_of _ _ c.from_residual.ensures ∙ sym (refusal-then _ _))

pub returns : goal.returns
returns c =
    let a = c.args in
    let r = judged-range 243247680 330847679 a.up a.dn _ c.judge.ensures c.in_ok-judge.was in
    rw (judged-hours (kind_of a.kind) _ c.judge.ensures c.in_ok-judge.was, ← (since-is a.up a.dn r.0)) (ap Gives c.date_after.ensures)
