-- The check, the test of the call, then the removal.
use Rattle.std.proofs.Common.{sym, ◌∙◌, arith}
use Rattle.refusals.proofs.RefusalLaws.{passed}
use Rattle.field_table.proofs.Calls.{room, order, few, remove-refusing, remove-no-field, remove-so}
use Rattle.field_table.proofs.remove.Goals as goal

pub returns-in_err-n : goal.returns-in_err-n
returns-in_err-n c =
    let kept = remove-refusing c.args.b.now _ c.in_err-n.ensures c.args.field in
    record { result_value = passed (λ n. n) _ _ c.from_residual.ensures ∙ kept.0; b_after = kept.1 }

pub returns-then-not-is_field : goal.returns-then-not-is_field
returns-then-not-is_field c =
    let kept = remove-no-field c.args.b.now c.in_ok-n.ensures c.args.field (sym c.is_field.ensures ∙ c.if-not-is_field.true) in
    record { result_value = kept.0; b_after = kept.1 }

pub remove-requires : goal.remove-requires
remove-requires c =
    let s = c.args.b.now in
    let e = c.in_ok-n.ensures in
    record { room = room s e; b_value = order s e; key_size_bound = omega (arith, few s e) }

pub returns : goal.returns
returns c =
    let done = remove-so c.args.b.now c.in_ok-n.ensures c.args.field (sym c.is_field.ensures ∙ c.if-not-is_field.false) c.remove.ensures.result_value c.remove.ensures.b_after in
    record { result_value = done.0; b_after = done.1 }
