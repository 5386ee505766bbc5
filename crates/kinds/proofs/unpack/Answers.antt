-- `kinds::unpack` meets its contract: the mark, then the test of the fields. Assumes nothing.
use Rattle.std.proofs.Common.{rules, sym, ap, ◌∙◌}
use Rattle.rules.specs.Kinds.{mark_allowed}
use Rattle.kinds.specs.Views.{kind_of, bits_of}
use Rattle.kinds.proofs.Laws.{mark-refused, handed-is, handed-not}
use Rattle.kinds.proofs.unpack.Goals as goal

pub returns-then-fits_kind : goal.returns-then-fits_kind
returns-then-fits_kind c =
    let a = c.args in
    sym (handed-is (kind_of a.kind) (bits_of a.date) (ap mark_allowed (sym c.mark_of.ensures) ∙ sym c.mark_allowed.ensures ∙ c.if-mark_allowed.true)
    c.fields_of-fields.ensures (search rules) (sym c.fits_kind.ensures ∙ c.if-fits_kind.true))

pub returns-else-fits_kind : goal.returns-else-fits_kind
returns-else-fits_kind c =
    let a = c.args in
    sym (handed-not (kind_of a.kind) (bits_of a.date) (ap mark_allowed (sym c.mark_of.ensures) ∙ sym c.mark_allowed.ensures ∙ c.if-mark_allowed.true)
    c.fields_of-fields.ensures (sym c.fits_kind.ensures ∙ c.if-fits_kind.false))

pub returns-else-mark_allowed : goal.returns-else-mark_allowed
returns-else-mark_allowed c =
    let a = c.args in
    sym (mark-refused (kind_of a.kind) (bits_of a.date)
    (ap mark_allowed (sym c.mark_of.ensures) ∙ sym c.mark_allowed.ensures ∙ c.if-mark_allowed.false))
