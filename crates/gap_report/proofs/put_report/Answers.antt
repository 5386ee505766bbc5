-- The report is built in a room of its own, and copied where there is room.
use Rattle.std.proofs.Common.{arith}
use Rattle.rules.proofs.OnSpelling.WriteLaws.{wrote, wrote-whole, wrote-short}
use Rattle.formatter.proofs.Texts.{taken, copied}
use Rattle.requests.specs.Both.{both}
use Rattle.requests.specs.GapReport.{report_text}
use Rattle.gap_report.specs.Walk.{records_in}
use Rattle.gap_report.proofs.put_report.Goals as goal

pub returns-then-out-length : goal.returns-then-out-length
returns-then-out-length c =
    let text = report_text (both c.args.b.now) (records_in c.args.b.now) in
    let s = wrote-short text c.args.out.now (omega (arith, c.build-length.ensures.value.0)) in
    record { result_value = s.answered; out_after = s.holds }

pub returns : goal.returns
returns c =
    let text = report_text (both c.args.b.now) (records_in c.args.b.now) in
    let e = c.build-length.ensures in
    let w = wrote text c.args.out.now e.value.0 c.if-out-length.false (copied text _ c.args.out.now _ (taken text _ c.build-length.new.out c.build-length.result e.value.0 e.out_after) c.copy.ensures) in
    let s = wrote-whole w in
    record { result_value = s.answered; out_after = s.holds }
