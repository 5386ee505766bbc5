-- `iso_reading::read` meets its contract: the leading number, the parts, the date of these fields, the date's own text. Assumes nothing.
use Rattle.std.proofs.Common.{rules, w64, to_z-of_z}
use Rattle.kinds.specs.Views.{kind_of}
use Rattle.iso_reading.proofs.Steps.{lead-refused, parts-refused, date-refused, own-spelling}
use Rattle.iso_reading.proofs.read.Goals as goal

pub returns-in_err-lead : goal.returns-in_err-lead
returns-in_err-lead c = rw c.from_residual.ensures (lead-refused (kind_of c.args.kind) _ c.in_err-lead.ensures.result_value)

pub returns-in_err-parts : goal.returns-in_err-parts
returns-in_err-parts c =
    rw c.from_residual-in_err-parts.ensures (parts-refused (kind_of c.args.kind) _ c.in_ok-lead.lead c.in_ok-lead.ensures.result_value c.in_err-parts.ensures)

pub returns-in_err-date : goal.returns-in_err-date
returns-in_err-date c =
    let year = to_z-of_z {w = w64} {z = c.in_ok-lead.lead.value} (search rules) in
    rw c.from_residual-in_err-date.ensures (date-refused (kind_of c.args.kind) _ c.in_ok-lead.lead c.in_ok-lead.ensures.result_value c.in_ok-parts.parts c.in_ok-parts.ensures (rw year at c.in_err-date.ensures))

pub returns-then-is_iso_of : goal.returns-then-is_iso_of
returns-then-is_iso_of c =
    let year = to_z-of_z {w = w64} {z = c.in_ok-lead.lead.value} (search rules) in
    own-spelling (kind_of c.args.kind) _ c.in_ok-lead.lead c.in_ok-lead.ensures.result_value c.in_ok-parts.parts c.in_ok-parts.ensures c.in_ok-date.date _ (rw year at c.in_ok-date.ensures) c.if-is_iso_of.ensures

pub returns : goal.returns
returns c =
    let year = to_z-of_z {w = w64} {z = c.in_ok-lead.lead.value} (search rules) in
    own-spelling (kind_of c.args.kind) _ c.in_ok-lead.lead c.in_ok-lead.ensures.result_value c.in_ok-parts.parts c.in_ok-parts.ensures c.in_ok-date.date _ (rw year at c.in_ok-date.ensures) c.if-is_iso_of.ensures
