-- The length, the shape, the leading number, the rest. Assumes nothing.
use Rattle.std.specs.Prelude.{refl}
use Rattle.std.proofs.Common.{sym, ap, ◌∙◌}
use Rattle.rules.specs.Refusals.{Gives}
use Rattle.kinds.specs.Views.{kind_of}
use Rattle.reading.proofs.Texts.{too_long_lem, shape-refused, lead-refused, rest_read}
use Rattle.pds_date.proofs.PdsDate.plain.Goals as goal

pub returns-then-s-gt-TEXT_LIMIT : goal.returns-then-s-gt-TEXT_LIMIT
returns-then-s-gt-TEXT_LIMIT g c = sym (too_long_lem (kind_of g.Self.PdsDate.KIND) _ c.if-s-gt-TEXT_LIMIT.true)

pub returns-then-not-shape_allowed : goal.returns-then-not-shape_allowed
returns-then-not-shape_allowed g c =
    sym (shape-refused (kind_of g.Self.PdsDate.KIND) _ c.if-s-gt-TEXT_LIMIT.false (sym (rw c.KIND.ensures at c.if-not-shape_allowed.ensures)))

pub returns-in_default : goal.returns-in_default
returns-in_default g c =
    lead-refused (kind_of g.Self.PdsDate.KIND) _ c.if-s-gt-TEXT_LIMIT.false (sym (rw c.KIND.ensures at c.if-not-shape_allowed.ensures)) c.in_default.ensures.result_value refl

pub returns-in_default-read_rest : goal.returns-in_default-read_rest
returns-in_default-read_rest g c =
    (rw c.KIND-2.ensures at c.in_default-read_rest.ensures)
    ∙ rest_read (kind_of g.Self.PdsDate.KIND) _ c.if-s-gt-TEXT_LIMIT.false (sym (rw c.KIND.ensures at c.if-not-shape_allowed.ensures)) c.in-Some.ensures.result_value refl

pub returns : goal.returns
returns g c =
    ap Gives c.of_raw.ensures
    ∙ (rw c.KIND-2.ensures at c.in-Some-read_rest.ensures)
    ∙ rest_read (kind_of g.Self.PdsDate.KIND) _ c.if-s-gt-TEXT_LIMIT.false (sym (rw c.KIND.ensures at c.if-not-shape_allowed.ensures)) c.in-Some.ensures.result_value refl
