-- The table's check, then the league's declaration.
use Rattle.std.proofs.Common.{◌∙◌}
use Rattle.refusals.proofs.RefusalLaws.{passed}
use Rattle.league_table.proofs.Calls.{declare-refusing}
use Rattle.league_table.proofs.declare.Goals as goal

pub returns-in_err-n : goal.returns-in_err-n
returns-in_err-n c =
    let a = c.args in
    let kept = declare-refusing a.b.now _ c.in_err-n.ensures a.league a.field a.code in
    record { result_value = passed (λ n. n) _ _ c.from_residual.ensures ∙ kept.0; b_after = kept.1 }
