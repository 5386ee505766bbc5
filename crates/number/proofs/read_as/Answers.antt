-- `number::read_as` meets its contract: the number's fields, decoded. Assumes nothing.
use Rattle.std.proofs.Common.{ap, ◌∙◌}
use Rattle.rules.specs.Refusals.{not_number}
use Rattle.kinds.specs.Views.{kind_of, fields_of}
use Rattle.number.specs.Views.{read_as}
use Rattle.number.proofs.Laws.{fields-told, day-read, read_none, read_some}
use Rattle.number.proofs.read_as.Goals as goal

pub returns-in_err-fields : goal.returns-in_err-fields
returns-in_err-fields c =
    let a = c.args in
    ap read_as c.from_residual.ensures
    ∙ rw (read_none (kind_of a.kind) a.s c.requires (fields-told c.ranges.s c.number_fields.ensures.by_index c.in_err-fields.was))

pub decode-requires-clause-le_month : goal.decode-requires-clause-le_month
decode-requires-clause-le_month c =
    let a = c.args in
    day-read (kind_of a.kind) not_number a.s _ c.requires (fields-told c.ranges.s c.number_fields.ensures.by_index c.in_ok-fields.was)

pub returns : goal.returns
returns c =
    let a = c.args in
    c.decode.ensures
    ∙ rw (read_some (kind_of a.kind) a.s (fields_of c.in_ok-fields.fields) c.requires (fields-told c.ranges.s c.number_fields.ensures.by_index c.in_ok-fields.was))
