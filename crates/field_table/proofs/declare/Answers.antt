-- The check, the tests of the call, then the entry.
use Rattle.std.proofs.Common.{sym, ap, ◌∙◌, arith}
use Rattle.refusals.proofs.RefusalLaws.{passed, some-of, none-of}
use Rattle.field_table.specs.Views.{allowed_as}
use Rattle.field_table.proofs.Calls.{room, order, few, declare-refusing, declare-no-field, declare-no-kind, declare-so}
use Rattle.field_table.proofs.declare.Goals as goal

pub returns-in_err-n : goal.returns-in_err-n
returns-in_err-n c =
    let a = c.args in
    let kept = declare-refusing a.b.now _ c.in_err-n.ensures a.field a.code in
    record { result_value = passed (λ n. n) _ _ c.from_residual.ensures ∙ kept.0; b_after = kept.1 }

pub returns-then-not-is_field : goal.returns-then-not-is_field
returns-then-not-is_field c =
    let a = c.args in
    let kept = declare-no-field a.b.now c.in_ok-n.ensures a.field a.code (sym c.is_field.ensures ∙ c.if-not-is_field.true) in
    record { result_value = kept.0; b_after = kept.1 }

pub returns-in_err-kind : goal.returns-in_err-kind
returns-in_err-kind c =
    let a = c.args in
    let none = none-of (λ n. n) _ _ _ c.ok_or.ensures.value c.in_err-kind.was c.from_residual-in_err-kind.ensures in
    let kept = declare-no-kind a.b.now c.in_ok-n.ensures a.field a.code (sym (ap allowed_as none.0) ∙ c.declared_kind.ensures) in
    record { result_value = none.1 ∙ kept.0; b_after = kept.1 }

pub declare-requires : goal.declare-requires
declare-requires c =
    let s = c.args.b.now in
    let e = c.in_ok-n.ensures in
    record { room = room s e; b_value = order s e; len = omega (arith, few s e) }

pub returns : goal.returns
returns c =
    let a = c.args in
    let some = some-of _ _ c.ok_or.ensures.value c.in_ok-kind.was in
    let done = declare-so a.b.now c.in_ok-n.ensures a.field a.code (sym c.is_field.ensures ∙ c.if-not-is_field.false) (sym (ap allowed_as some) ∙ c.declared_kind.ensures)
    c.entry_bytes.ensures c.declare.ensures.result_value c.declare.ensures.b_after in
    record { result_value = done.0; b_after = done.1 }
