-- The table's check, then the league's removal.
use Rattle.std.proofs.Common.{◌∙◌}
use Rattle.refusals.proofs.RefusalLaws.{passed}
use Rattle.league_table.proofs.Calls.{remove-refusing}
use Rattle.league_table.proofs.remove.Goals as goal

pub returns-in_err-n : goal.returns-in_err-n
returns-in_err-n c =
    let a = c.args in
    let kept = remove-refusing a.b.now _ c.in_err-n.ensures a.league a.field in
    record { result_value = passed (λ n. n) _ _ c.from_residual.ensures ∙ kept.0; b_after = kept.1 }
