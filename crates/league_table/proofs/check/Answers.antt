-- The table's check, then the league's count.
use Rattle.std.proofs.Common.{◌∙◌}
use Rattle.refusals.proofs.RefusalLaws.{passed}
use Rattle.league_table.proofs.Calls.{check-refusing}
use Rattle.league_table.proofs.check.Goals as goal

pub returns-in_err-n : goal.returns-in_err-n
returns-in_err-n c = passed (λ n. n) _ _ c.from_residual.ensures ∙ check-refusing c.args.b.now _ c.in_err-n.ensures c.args.league
