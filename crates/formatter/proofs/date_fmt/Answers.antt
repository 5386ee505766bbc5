-- `formatter::date_fmt` meets its contract: the pieces of the ISO date alone. Assumes nothing.
use Rattle.std.proofs.Common.{rules, sym, ap, ◌∙◌, arith, w16, to_z-of_z}
use Rattle.std.specs.Prelude.{None, refl}
use Rattle.rules.specs.Refusals.{Gives}
use Rattle.rules.specs.Spelling.{iso_date_alone}
use Rattle.refusals.proofs.RefusalLaws.{some-of, none-of}
use Rattle.kinds.specs.Views.{kind_of, fields_of, opened_as}
use Rattle.formatter.proofs.PieceLaws.{date-text, small}
use Rattle.formatter.proofs.Texts.{by-text, by-refusal}
use Rattle.formatter.proofs.date_fmt.Goals as goal

pub returns-in_err-fields-clause-result_value : goal.returns-in_err-fields-clause-result_value
returns-in_err-fields-clause-result_value c =
    let n = none-of (λ n. n) _ _ c.from_residual.result c.ok_or.ensures.value c.in_err-fields.was c.from_residual.ensures in
    n.1 ∙ (by-refusal _ c.args.out.now (rw (sym c.unpack.ensures ∙ ap opened_as n.0))).0

pub returns-in_err-fields-clause-out_after : goal.returns-in_err-fields-clause-out_after
returns-in_err-fields-clause-out_after c =
    let n = none-of (λ n. n) _ _ c.from_residual.result c.ok_or.ensures.value c.in_err-fields.was c.from_residual.ensures in
    (by-refusal _ c.args.out.now (rw (sym c.unpack.ensures ∙ ap opened_as n.0))).1.0

pub put_text-requires : goal.put_text-requires
put_text-requires c =
    let s = small _ _ _ (sym c.unpack.ensures ∙ ap opened_as (some-of _ _ c.ok_or.ensures.value c.in_ok-fields.was)) in
    (c.iso_year-year.ensures.digits_bound, s.month, s.day, omega arith)

pub returns-then-has_iso_date-clause-result_value : goal.returns-then-has_iso_date-clause-result_value
unfolding iso_date_alone
returns-then-has_iso_date-clause-result_value c =
    let k = kind_of c.args.kind in let f = fields_of c.in_ok-fields.fields in
    let found = sym c.unpack.ensures ∙ ap opened_as (some-of _ _ c.ok_or.ensures.value c.in_ok-fields.was) in
    let text = date-text f c.iso_year-year.result None (rw (to_z-of_z {w = w16} {z = f.year} (search rules)) at c.iso_year-year.ensures.result_value) refl in
    let p = c.put_text.ensures in
    (by-text (iso_date_alone k) c.args.out.now _ c.put_text.result found (rw (← c.has_iso_date.ensures, c.if-has_iso_date.true) (ap Gives (sym text))) (p.result_value, (p.out_after, p.result_in_bounds))).0

pub returns-then-has_iso_date-clause-out_after : goal.returns-then-has_iso_date-clause-out_after
unfolding iso_date_alone
returns-then-has_iso_date-clause-out_after c =
    let k = kind_of c.args.kind in let f = fields_of c.in_ok-fields.fields in
    let found = sym c.unpack.ensures ∙ ap opened_as (some-of _ _ c.ok_or.ensures.value c.in_ok-fields.was) in
    let text = date-text f c.iso_year-year.result None (rw (to_z-of_z {w = w16} {z = f.year} (search rules)) at c.iso_year-year.ensures.result_value) refl in
    let p = c.put_text.ensures in
    (by-text (iso_date_alone k) c.args.out.now _ c.put_text.result found (rw (← c.has_iso_date.ensures, c.if-has_iso_date.true) (ap Gives (sym text))) (p.result_value, (p.out_after, p.result_in_bounds))).1.0

pub returns-clause-result_value : goal.returns-clause-result_value
unfolding iso_date_alone
returns-clause-result_value c =
    let found = sym c.unpack.ensures ∙ ap opened_as (some-of _ _ c.ok_or.ensures.value c.in_ok-fields.was) in
    (by-refusal _ c.args.out.now (rw (found, ← c.has_iso_date.ensures, c.if-has_iso_date.false))).0

pub returns-clause-out_after : goal.returns-clause-out_after
unfolding iso_date_alone
returns-clause-out_after c =
    let found = sym c.unpack.ensures ∙ ap opened_as (some-of _ _ c.ok_or.ensures.value c.in_ok-fields.was) in
    (by-refusal _ c.args.out.now (rw (found, ← c.has_iso_date.ensures, c.if-has_iso_date.false))).1.0
