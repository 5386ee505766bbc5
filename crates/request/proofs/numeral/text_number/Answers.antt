-- `request::numeral::text_number` meets its contract: a leading number of few bytes, to the end. Assumes nothing.
use Rattle.std.proofs.Common.{rules, sym, ap, ◌∙◌, arith, w64, to_z-of_z}
use Rattle.rules.proofs.Shared.Rests.{here, past}
use Rattle.scalar.specs.Views.{leading_as, next_of}
use Rattle.request.specs.Views.{numeral_as}
use Rattle.request.proofs.NumeralLaws.{line-number}
use Rattle.request.proofs.numeral.text_number.Goals as goal

pub returns-in_err-value : goal.returns-in_err-value
returns-in_err-value c =
    ap numeral_as c.from_residual.ensures
    ∙ rw (line-number c.args.t.now, ← c.few_digits.ensures, c.if-few_digits.true, sym c.to_i64_t.ensures.result_value ∙ ap (leading_as c.args.t.now) c.in_err-value.was)

pub returns-then-next-t : goal.returns-then-next-t
returns-then-next-t c =
    let at_end = past c.args.t.now c.in_ok-value.field-0.next (omega arith) in
    rw (line-number c.args.t.now, ← c.few_digits.ensures, c.if-few_digits.true, sym c.to_i64_t.ensures.result_value ∙ ap (leading_as c.args.t.now) c.in_ok-value.was, at_end)
    (rw (to_z-of_z {w = w64} {z = c.in_ok-value.field-0.value} (search rules)) at c.whole32.ensures)

pub returns-else-next-t : goal.returns-else-next-t
returns-else-next-t c =
    let more = here c.args.t.now c.in_ok-value.field-0.next (omega (arith, ap next_of c.in_ok-value.was, c.to_i64_t.ensures.result_in_bounds)) in
    rw (line-number c.args.t.now, ← c.few_digits.ensures, c.if-few_digits.true, sym c.to_i64_t.ensures.result_value ∙ ap (leading_as c.args.t.now) c.in_ok-value.was, more)

pub returns-else-few_digits : goal.returns-else-few_digits
returns-else-few_digits c = rw (line-number c.args.t.now, ← c.few_digits.ensures, c.if-few_digits.false)
