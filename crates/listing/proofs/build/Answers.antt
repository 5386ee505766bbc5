-- `listing::build` meets its contract: by what the line asks for, and what it is answered. Assumes nothing.
use Rattle.std.proofs.Common.{sym, ap, ◌∙◌, length}
use Rattle.kinds.specs.Views.{kind_of}
use Rattle.request.specs.Views.{way_of, request_as, asked_as}
use Rattle.listing.proofs.LineTexts.{placed-as}
use Rattle.listing.proofs.Requests.{date-output, error-output, unread-output}
use Rattle.listing.proofs.build.Goals as goal

pub put_date-requires : goal.put_date-requires
put_date-requires c =
    (c.requires, (date-output c.args.s.now (kind_of c.in-Some.asked.kind) (way_of c.in-Some.asked.way) (sym c.read_line.ensures.result_value ∙ ap (request_as c.args.s.now) c.in-Some.is) _ (sym (sym c.date_by.ensures.result_value ∙ ap asked_as c.in-Ok.is))).of-kind)

pub returns-in_default-clause-value : goal.returns-in_default-clause-value
returns-in_default-clause-value c =
    let e = unread-output c.args.s.now (sym c.read_line.ensures.result_value ∙ ap (request_as c.args.s.now) c.in_default.is) in
    let q = c.put_refused.ensures.value in (q.0 ∙ ap length (sym e), q.1)

pub returns-in_default-clause-out_after : goal.returns-in_default-clause-out_after
returns-in_default-clause-out_after c =
    let e = unread-output c.args.s.now (sym c.read_line.ensures.result_value ∙ ap (request_as c.args.s.now) c.in_default.is) in
    c.put_refused.ensures.out_after ∙ placed-as c.args.out.now e

pub returns-in-Ok-clause-value : goal.returns-in-Ok-clause-value
returns-in-Ok-clause-value c =
    let e = (date-output c.args.s.now (kind_of c.in-Some.asked.kind) (way_of c.in-Some.asked.way) (sym c.read_line.ensures.result_value ∙ ap (request_as c.args.s.now) c.in-Some.is) _ (sym (sym c.date_by.ensures.result_value ∙ ap asked_as c.in-Ok.is))).is in
    let q = c.put_date.ensures.value in (q.0 ∙ ap length (sym e), q.1)

pub returns-in-Ok-clause-out_after : goal.returns-in-Ok-clause-out_after
returns-in-Ok-clause-out_after c =
    let e = (date-output c.args.s.now (kind_of c.in-Some.asked.kind) (way_of c.in-Some.asked.way) (sym c.read_line.ensures.result_value ∙ ap (request_as c.args.s.now) c.in-Some.is) _ (sym (sym c.date_by.ensures.result_value ∙ ap asked_as c.in-Ok.is))).is in
    c.put_date.ensures.out_after ∙ placed-as c.args.out.now e

pub returns-in-Err-clause-value : goal.returns-in-Err-clause-value
returns-in-Err-clause-value c =
    let e = error-output c.args.s.now (kind_of c.in-Some.asked.kind) (way_of c.in-Some.asked.way) (sym c.read_line.ensures.result_value ∙ ap (request_as c.args.s.now) c.in-Some.is) _ (sym (sym c.date_by.ensures.result_value ∙ ap asked_as c.in-Err.is)) in
    let told = rw (← c.letter.ensures, ← c.from.ensures) at e in
    let q = c.put_refused-in-Err.ensures.value in (q.0 ∙ ap length (sym told), q.1)

pub returns-in-Err-clause-out_after : goal.returns-in-Err-clause-out_after
returns-in-Err-clause-out_after c =
    let e = error-output c.args.s.now (kind_of c.in-Some.asked.kind) (way_of c.in-Some.asked.way) (sym c.read_line.ensures.result_value ∙ ap (request_as c.args.s.now) c.in-Some.is) _ (sym (sym c.date_by.ensures.result_value ∙ ap asked_as c.in-Err.is)) in
    let told = rw (← c.letter.ensures, ← c.from.ensures) at e in
    c.put_refused-in-Err.ensures.out_after ∙ placed-as c.args.out.now told
