-- `request::line::read_line` meets its contract: by its first four bytes. Assumes nothing.
use Rattle.std.proofs.Common.{sym, ap, ◌∙◌}
use Rattle.codes.specs.Views.{lettered_as}
use Rattle.request.specs.Views.{request_as, way_as}
use Rattle.request.proofs.LineLaws.{too_short, no-space, one-space, two-spaces}
use Rattle.request.proofs.line.read_line.Goals as goal

pub returns-then-s-lt4-clause-result_value : goal.returns-then-s-lt4-clause-result_value
returns-then-s-lt4-clause-result_value c = sym (too_short c.args.s.now c.if-s-lt4.true)

pub returns-then-s-ne32-clause-result_value : goal.returns-then-s-ne32-clause-result_value
returns-then-s-ne32-clause-result_value c = sym (no-space c.args.s.now c.if-s-lt4.false c.if-s-ne32.true)

pub returns-then-s-ne32-2-clause-result_value : goal.returns-then-s-ne32-2-clause-result_value
returns-then-s-ne32-2-clause-result_value c = sym (one-space c.args.s.now c.if-s-lt4.false c.if-s-ne32.false c.if-s-ne32-2.true)

pub returns-in_err-kind-clause-result_value : goal.returns-in_err-kind-clause-result_value
returns-in_err-kind-clause-result_value c =
    ap (request_as c.args.s.now) c.from_residual.ensures
    ∙ rw (two-spaces c.args.s.now c.if-s-lt4.false c.if-s-ne32.false c.if-s-ne32-2.false, sym c.kind_of_letter.ensures ∙ ap lettered_as c.in_err-kind.was)

pub returns-in_err-way-clause-result_value : goal.returns-in_err-way-clause-result_value
returns-in_err-way-clause-result_value c =
    ap (request_as c.args.s.now) c.from_residual-in_err-way.ensures
    ∙ rw (two-spaces c.args.s.now c.if-s-lt4.false c.if-s-ne32.false c.if-s-ne32-2.false, sym c.kind_of_letter.ensures ∙ ap lettered_as c.in_ok-kind.was, sym c.way_of_letter.ensures ∙ ap way_as c.in_err-way.was)

pub returns-then-has_way-clause-result_value : goal.returns-then-has_way-clause-result_value
returns-then-has_way-clause-result_value c =
    rw (two-spaces c.args.s.now c.if-s-lt4.false c.if-s-ne32.false c.if-s-ne32-2.false, sym c.kind_of_letter.ensures ∙ ap lettered_as c.in_ok-kind.was, sym c.way_of_letter.ensures ∙ ap way_as c.in_ok-way.was, ← c.has_way.ensures, c.if-has_way.true)

pub returns-clause-result_value : goal.returns-clause-result_value
returns-clause-result_value c =
    rw (two-spaces c.args.s.now c.if-s-lt4.false c.if-s-ne32.false c.if-s-ne32-2.false, sym c.kind_of_letter.ensures ∙ ap lettered_as c.in_ok-kind.was, sym c.way_of_letter.ensures ∙ ap way_as c.in_ok-way.was, ← c.has_way.ensures, c.if-has_way.false)
