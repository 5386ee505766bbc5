-- By where the key was found.
use Rattle.std.proofs.Common.{◌+◌, ◌*◌, ◌≤◌, arith}
use Rattle.std.proofs.Math.Nat.{mul-le-mul_right}
use Rattle.field_table.proofs.Finds.{at-tells, at-inside}
use Rattle.field_table.proofs.Changes.{remove-at, remove-none}
use Rattle.field_table.proofs.sized.Format.remove.Goals as goal

pub returns-in_default : goal.returns-in_default
returns-in_default c =
    let a = c.args in
    let kept = remove-none a.self.key_size a.n a.key a.b.now c.requires.room c.requires.b_value c.in_default.ensures in
    record { result_value = kept.0; b_after = kept.1 }

pub overflow_mul-i : goal.overflow_mul-i
overflow_mul-i c =
    let a = c.args in omega (arith, at-inside a.self.key_size a.n a.b.now a.key c.in-Ok.i c.requires.b_value c.requires.room c.in-Ok.ensures)

pub overflow_add-i : goal.overflow_add-i
overflow_add-i c =
    let a = c.args in omega (arith, at-inside a.self.key_size a.n a.b.now a.key c.in-Ok.i c.requires.b_value c.requires.room c.in-Ok.ensures)

pub remove-requires : goal.remove-requires
remove-requires c =
    let a = c.args in
    let w = (at-tells a.self.key_size a.n a.b.now a.key c.in-Ok.i c.requires.b_value c.in-Ok.ensures).within in
    let ends : (c.in-Ok.i + 1) * (a.self.key_size + 1) ≤ a.n * (a.self.key_size + 1) =
    mul-le-mul_right (a.self.key_size + 1) (let h : c.in-Ok.i + 1 ≤ a.n = omega arith in h) in
    omega (arith, ends, c.requires.room)

pub overflow_sub-n : goal.overflow_sub-n
overflow_sub-n c =
    let a = c.args in omega (arith, (at-tells a.self.key_size a.n a.b.now a.key c.in-Ok.i c.requires.b_value c.in-Ok.ensures).within)

pub overflow_sub-result : goal.overflow_sub-result
overflow_sub-result c =
    let a = c.args in omega (arith, (at-tells a.self.key_size a.n a.b.now a.key c.in-Ok.i c.requires.b_value c.in-Ok.ensures).within)

pub returns : goal.returns
returns c =
    let a = c.args in
    let gone = remove-at a.self.key_size a.n a.key a.b.now c.requires.room c.requires.b_value c.in-Ok.ensures c.remove.ensures c.put_length.ensures in
    record { result_value = gone.0; b_after = gone.1 }
