-- `formatter::iso_8601` meets its contract: the pieces of the ISO text. Assumes nothing.
use Rattle.std.proofs.Common.{rules, sym, ap, ◌∙◌, w16, to_z-of_z}
use Rattle.rules.specs.Refusals.{Gives}
use Rattle.rules.specs.Spelling.{iso}
use Rattle.refusals.proofs.RefusalLaws.{some-of, none-of}
use Rattle.kinds.specs.Views.{kind_of, fields_of, opened_as}
use Rattle.formatter.proofs.PieceLaws.{iso-text, small}
use Rattle.formatter.proofs.Texts.{by-text, by-refusal}
use Rattle.formatter.proofs.iso_8601.Goals as goal

pub returns-in_err-fields-clause-result_value : goal.returns-in_err-fields-clause-result_value
returns-in_err-fields-clause-result_value c =
    let n = none-of (λ n. n) _ _ c.from_residual.result c.ok_or.ensures.value c.in_err-fields.was c.from_residual.ensures in
    n.1 ∙ (by-refusal _ c.args.out.now (rw (sym c.unpack.ensures ∙ ap opened_as n.0))).0

pub returns-in_err-fields-clause-out_after : goal.returns-in_err-fields-clause-out_after
returns-in_err-fields-clause-out_after c =
    let n = none-of (λ n. n) _ _ c.from_residual.result c.ok_or.ensures.value c.in_err-fields.was c.from_residual.ensures in
    (by-refusal _ c.args.out.now (rw (sym c.unpack.ensures ∙ ap opened_as n.0))).1.0

pub iso_hour-hour-requires : goal.iso_hour-hour-requires
iso_hour-hour-requires c = (small _ _ _ (sym c.unpack.ensures ∙ ap opened_as (some-of _ _ c.ok_or.ensures.value c.in_ok-fields.was))).hour

pub put_text-requires : goal.put_text-requires
put_text-requires c =
    let s = small _ _ _ (sym c.unpack.ensures ∙ ap opened_as (some-of _ _ c.ok_or.ensures.value c.in_ok-fields.was)) in
    (c.iso_year-year.ensures.digits_bound, s.month, s.day, c.iso_hour-hour.ensures.value_bound)

pub returns-clause-result_value : goal.returns-clause-result_value
returns-clause-result_value c =
    let k = kind_of c.args.kind in let f = fields_of c.in_ok-fields.fields in
    let found = sym c.unpack.ensures ∙ ap opened_as (some-of _ _ c.ok_or.ensures.value c.in_ok-fields.was) in
    let text = iso-text k f c.iso_year-year.result c.iso_hour-hour.result (rw (to_z-of_z {w = w16} {z = f.year} (search rules)) at c.iso_year-year.ensures.result_value) c.iso_hour-hour.ensures.result_value in
    let p = c.put_text.ensures in
    (by-text (λ f. Gives (iso k f)) c.args.out.now _ c.put_text.result found (ap Gives (sym text)) (p.result_value, (p.out_after, p.result_in_bounds))).0

pub returns-clause-out_after : goal.returns-clause-out_after
returns-clause-out_after c =
    let k = kind_of c.args.kind in let f = fields_of c.in_ok-fields.fields in
    let found = sym c.unpack.ensures ∙ ap opened_as (some-of _ _ c.ok_or.ensures.value c.in_ok-fields.was) in
    let text = iso-text k f c.iso_year-year.result c.iso_hour-hour.result (rw (to_z-of_z {w = w16} {z = f.year} (search rules)) at c.iso_year-year.ensures.result_value) c.iso_hour-hour.ensures.result_value in
    let p = c.put_text.ensures in
    (by-text (λ f. Gives (iso k f)) c.args.out.now _ c.put_text.result found (ap Gives (sym text)) (p.result_value, (p.out_after, p.result_in_bounds))).1.0
