-- By where the key was found.
use Rattle.std.proofs.Common.{sym, ap, ◌∙◌, arith}
use mir.Facts.{to_z-of_z}
use Rattle.kinds.specs.Views.{kind_of}
use Rattle.field_table.specs.Views.{in_bits}
use Rattle.field_table.proofs.Finds.{at-inside}
use Rattle.field_table.proofs.ByKey.{ascending, looks-guess, looks-decode}
use Rattle.field_table.proofs.by_key.look.Goals as goal

pub overflow_mul-at : goal.overflow_mul-at
overflow_mul-at c =
    let a = c.args in
    let k = a.format.key_size in
    omega (arith, at-inside k a.n a.b.now a.key c.in-Ok.i (ascending k a.n a.b.now c.requires.b_value) c.requires.room c.in-Ok.ensures)

pub overflow_add-at-in-Ok : goal.overflow_add-at-in-Ok
overflow_add-at-in-Ok c =
    let a = c.args in
    let k = a.format.key_size in
    omega (arith, at-inside k a.n a.b.now a.key c.in-Ok.i (ascending k a.n a.b.now c.requires.b_value) c.requires.room c.in-Ok.ensures)

pub overflow_add-at-in-Ok-2 : goal.overflow_add-at-in-Ok-2
overflow_add-at-in-Ok-2 c =
    let a = c.args in
    let k = a.format.key_size in
    omega (arith, at-inside k a.n a.b.now a.key c.in-Ok.i (ascending k a.n a.b.now c.requires.b_value) c.requires.room c.in-Ok.ensures)

pub bounds-b-at : goal.bounds-b-at
bounds-b-at c =
    let a = c.args in
    let k = a.format.key_size in
    omega (arith, at-inside k a.n a.b.now a.key c.in-Ok.i (ascending k a.n a.b.now c.requires.b_value) c.requires.room c.in-Ok.ensures)

pub returns-in-Ok : goal.returns-in-Ok
returns-in-Ok c =
    let a = c.args in
    (rw (to_z-of_z c.ranges.number) at c.decode.ensures)
    ∙ ap in_bits (sym (looks-decode a.format.key_size a.n a.b.now c.requires.b_value a.key c.in-Ok.i (kind_of a.game) a.number c.in-Ok.ensures))

pub returns-in-Err : goal.returns-in-Err
returns-in-Err c =
    let a = c.args in
    (rw (to_z-of_z c.ranges.number) at c.guess.ensures)
    ∙ ap in_bits (sym (looks-guess a.format.key_size a.n a.b.now c.requires.b_value a.key _ (kind_of a.game) a.number c.in-Err.ensures))
