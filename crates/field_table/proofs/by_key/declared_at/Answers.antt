-- The key of the entry, and the kind of its code.
use Rattle.std.proofs.Common.{sym, ap, ◌∙◌, arith}
use Rattle.refusals.proofs.RefusalLaws.{some-of, none-of}
use Rattle.field_table.specs.Views.{allowed_as, declared_as}
use Rattle.field_table.proofs.ByKey.{key_fits, entry_here, entry-none}
use Rattle.field_table.proofs.by_key.declared_at.Goals as goal

pub overflow_cast-field : goal.overflow_cast-field
overflow_cast-field c = omega (arith, key_fits c.args.format.key_size _ c.args.format.narrow c.key_at-field.ensures.upper_bound)

pub returns-in_err-kind : goal.returns-in_err-kind
returns-in_err-kind c =
    let a = c.args in
    let none = none-of declared_as _ _ _ c.ok_or.ensures.value c.in_err-kind.was c.from_residual.ensures in
    none.1 ∙ sym (entry-none a.format.key_size a.b.now a.at (sym (ap allowed_as none.0) ∙ c.entry_kind.ensures))

pub returns : goal.returns
returns c =
    let a = c.args in
    let some = some-of _ _ c.ok_or.ensures.value c.in_ok-kind.was in
    rw c.key_at-field.ensures.value (sym (entry_here a.format.key_size a.b.now a.at c.requires.b_value (sym (ap allowed_as some) ∙ c.entry_kind.ensures)))
