-- What stands there, or none.
use Rattle.std.proofs.Common.{sym, ◌∙◌, arith}
use Rattle.field_table.proofs.Keys.{inside}
use Rattle.field_table.proofs.Calls.{room, entry_past, entry-is, it-declares}
use Rattle.field_table.proofs.declared_at.Goals as goal

pub overflow_mul-place : goal.overflow_mul-place
overflow_mul-place c =
    omega (arith, inside (room c.args.b.now (sym c.entries_in.ensures)) c.args.place c.if-place-entries_in.true)

pub overflow_add-place : goal.overflow_add-place
overflow_add-place c =
    omega (arith, inside (room c.args.b.now (sym c.entries_in.ensures)) c.args.place c.if-place-entries_in.true)

pub declared_at-requires : goal.declared_at-requires
declared_at-requires c =
    let a = c.args in
    record {
      key_size_in_bounds = inside (room a.b.now (sym c.entries_in.ensures)) a.place c.if-place-entries_in.true;
      b_value = it-declares a.b.now (sym c.entries_in.ensures) a.place c.if-place-entries_in.true;
    }

pub returns-then-place-entries_in : goal.returns-then-place-entries_in
returns-then-place-entries_in c =
    let a = c.args in c.declared_at.ensures ∙ sym (entry-is a.b.now (sym c.entries_in.ensures) a.place c.if-place-entries_in.true)

pub returns-else-place-entries_in : goal.returns-else-place-entries_in
returns-else-place-entries_in c =
    let a = c.args in sym (entry_past a.b.now (sym c.entries_in.ensures) a.place (omega (arith, c.if-place-entries_in.false)))
