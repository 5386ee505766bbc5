-- The table's check, then the entry among the league's.
use Rattle.std.proofs.Common.{◌∙◌}
use Rattle.refusals.proofs.RefusalLaws.{passed}
use Rattle.field_table.specs.Views.{declared_as}
use Rattle.league_table.proofs.Calls.{entry-refusing}
use Rattle.league_table.proofs.entry_at.Goals as goal

pub returns-in_err-n : goal.returns-in_err-n
returns-in_err-n c =
    passed declared_as _ _ c.from_residual.ensures ∙ entry-refusing c.args.b.now _ c.in_err-n.ensures c.args.league c.args.place
