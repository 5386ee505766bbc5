-- What refuses the check refuses the report, and else it is put where there is room.
use Rattle.std.proofs.Common.{sym, ◌∙◌}
use Rattle.refusals.proofs.RefusalLaws.{passed}
use Rattle.requests.specs.GapReport.{report}
use Rattle.gap_report.proofs.AnswerLaws.{report-given, report-refusing, text-refusing}
use Rattle.gap_report.proofs.report.Goals as goal

pub returns-in_err-n : goal.returns-in_err-n
returns-in_err-n c =
    let s = c.args.b.now in
    let kept = text-refusing (report s) c.args.out.now _ (report-refusing s _ (sym c.in_err-n.ensures)) in
    record { result_value = passed (λ n. n) _ _ c.from_residual.ensures ∙ kept.0; out_after = kept.1 }

pub returns : goal.returns
returns c = rw (report-given c.args.b.now _ (sym c.in_ok-n.ensures)) c.put_report.ensures
