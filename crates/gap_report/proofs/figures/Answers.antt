-- What refuses the check refuses the figures, and else they are put where there is room.
use Rattle.std.proofs.Common.{sym, ◌∙◌}
use Rattle.refusals.proofs.RefusalLaws.{passed}
use Rattle.requests.specs.Both.{both}
use Rattle.gap_report.specs.Walk.{records_in}
use Rattle.gap_report.specs.Figures.{figures_of, figures}
use Rattle.gap_report.proofs.AnswerLaws.{figures-given, figures-refusing, numbers-refusing, numbers-short, numbers_fit, figures-long}
use Rattle.gap_report.proofs.figures.Goals as goal

pub returns-in_err-n : goal.returns-in_err-n
returns-in_err-n c =
    let s = c.args.b.now in
    let kept = numbers-refusing (figures s) c.args.out.now _ (figures-refusing s _ (sym c.in_err-n.ensures)) in
    record { result_value = passed (λ n. n) _ _ c.from_residual.ensures ∙ kept.0; out_after = kept.1 }

pub returns-then-out-lt-FIGURES : goal.returns-then-out-lt-FIGURES
returns-then-out-lt-FIGURES c =
    let s = c.args.b.now in
    let short = numbers-short (figures s) c.args.out.now (figures_of (both s) (records_in s)) (figures-given s _ (sym c.in_ok-n.ensures)) (figures-long (both s) (records_in s)) c.if-out-lt-FIGURES.true in
    record { result_value = short.0; out_after = short.1 }

pub returns : goal.returns
returns c =
    let s = c.args.b.now in
    let put = numbers_fit (figures s) c.args.out.now (figures_of (both s) (records_in s)) (figures-given s _ (sym c.in_ok-n.ensures)) (figures-long (both s) (records_in s)) c.if-out-lt-FIGURES.false _ c.put_all.ensures in
    record { result_value = put.0; out_after = put.1 }
