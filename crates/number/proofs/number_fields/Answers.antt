-- `number::number_fields` meets its contract, by the number's sign: each test is one that the fields need. Assumes nothing.
use native.Mathlib.Omega.{arith}
use mathlib.Core.Path.{◌≡◌, ◌∙◌}
use Prim.Native.Nat.{◌+◌, ◌/◌}
use lib.IntN.{sub_ℕ}
use mir.Syntax.{w16, w32}
use mir.Facts.{to_z-of_z}
use Rattle.sign.proofs.Bits.{held}
use Rattle.number.proofs.Laws.{none, some, below}
use Rattle.number.proofs.number_fields.Goals as goal

pub returns-then-d-gt0-2-clause-by_index : goal.returns-then-d-gt0-2-clause-by_index
returns-then-d-gt0-2-clause-by_index c n =
    let g = rw (to_z-of_z {w = w32} c.ranges.s) at c.halved-h.ensures in none n g (λ t. omega arith)

pub returns-then-d-gt-LEAST_BELOW-clause-by_index : goal.returns-then-d-gt-LEAST_BELOW-clause-by_index
returns-then-d-gt-LEAST_BELOW-clause-by_index c n =
    let g = rw (to_z-of_z {w = w32} c.ranges.s) at c.halved-h.ensures in none n g (λ t. omega (arith, g.one))

pub returns-then-d-gt0-clause-by_index : goal.returns-then-d-gt0-clause-by_index
returns-then-d-gt0-clause-by_index c n =
    let g = rw (to_z-of_z {w = w32} c.ranges.s) at c.halved-h.ensures in
    below n g c.if-d-gt0.true (record { hour = omega arith; day = omega arith; low = omega arith; high = omega (arith, g.one) }) (held w16 c.int.type_inv ∙ c.int.ensures)

pub returns-then-u-gt-GREATEST-clause-by_index : goal.returns-then-u-gt-GREATEST-clause-by_index
returns-then-u-gt-GREATEST-clause-by_index c n =
    let g = rw (to_z-of_z {w = w32} c.ranges.s) at c.halved-h.ensures in none n g (λ t. omega arith)

pub returns-clause-by_index : goal.returns-clause-by_index
returns-clause-by_index c n =
    let g = rw (to_z-of_z {w = w32} c.ranges.s) at c.halved-h.ensures in
    let none-down : c.halved-h.result.dn ≡ 0 = omega arith in
    let year : sub_ℕ (c.halved-h.result.up / 8760) 5000 ≡ sub_ℕ (c.halved-h.result.up / 8760) (c.halved-h.result.dn / 8760 + 5000) = rw none-down in
    some n g (record { hour = omega arith; day = omega arith; low = omega arith; high = omega arith }) (held w16 c.int-2.type_inv ∙ (c.int-2.ensures ∙ year)) c.month_day_from_julian-on.ensures.0 c.month_day_from_julian-on.ensures.1
