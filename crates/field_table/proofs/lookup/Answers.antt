-- What refuses the table is refused, then the field is looked up.
use Rattle.std.proofs.Common.{◌∙◌}
use Rattle.refusals.proofs.RefusalLaws.{passed}
use Rattle.field_table.specs.Views.{bits_in}
use Rattle.field_table.proofs.Calls.{look-refusing}
use Rattle.field_table.proofs.lookup.Goals as goal

pub returns-in_err-check : goal.returns-in_err-check
returns-in_err-check c =
    let a = c.args in
    passed bits_in _ _ c.from_residual.ensures ∙ look-refusing a.b.now _ c.in_err-check.ensures a.field a.game a.number
