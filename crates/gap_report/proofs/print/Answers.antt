-- The report, or the word and the number of what refuses the book.
use Rattle.std.proofs.Common.{sym, ap, arith}
use Rattle.requests.specs.GapReport.{printed, report}
use Rattle.gap_report.proofs.TextLaws.{named}
use Rattle.gap_report.proofs.AnswerLaws.{report-given, report-refusing}
use Rattle.gap_report.proofs.print.Goals as goal

pub returns-in-Ok : goal.returns-in-Ok
unfolding printed
returns-in-Ok c = rw (report-given c.args.b.now _ (sym c.in-Ok.ensures)) c.build.ensures

pub returns-in-Err : goal.returns-in-Err
returns-in-Err c =
    let s = c.args.b.now in
    let e = c.print_refusal.ensures in
    let w = named c.args.out.now {t = printed (report s)} (ap printed (report-refusing s _ (sym c.in-Err.ensures))) (omega arith) (e.value, e.out_after) in
    record { value = w.0; out_after = w.1 }
