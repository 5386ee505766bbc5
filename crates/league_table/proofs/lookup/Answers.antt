-- The table's check, then the league's lookup.
use Rattle.std.proofs.Common.{◌∙◌}
use Rattle.refusals.proofs.RefusalLaws.{passed}
use Rattle.field_table.specs.Views.{bits_in}
use Rattle.league_table.proofs.Calls.{look-refusing}
use Rattle.league_table.proofs.lookup.Goals as goal

pub returns-in_err-n : goal.returns-in_err-n
returns-in_err-n c =
    let a = c.args in passed bits_in _ _ c.from_residual.ensures ∙ look-refusing a.b.now _ c.in_err-n.ensures a.league a.field a.game a.number
