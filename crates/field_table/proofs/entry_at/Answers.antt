-- What refuses the table is refused, then the place is looked at.
use Rattle.std.proofs.Common.{◌∙◌}
use Rattle.refusals.proofs.RefusalLaws.{passed}
use Rattle.field_table.specs.Views.{declared_as}
use Rattle.field_table.proofs.Calls.{entry-refusing}
use Rattle.field_table.proofs.entry_at.Goals as goal

pub returns-in_err-check : goal.returns-in_err-check
returns-in_err-check c =
    passed declared_as _ _ c.from_residual.ensures ∙ entry-refusing c.args.b.now _ c.in_err-check.ensures c.args.place
