-- `hour_count::number_of` meets its contract: the number that `to_binary` writes, which lies in the range. Assumes nothing.
use mathlib.Core.Path.{◌∙◌}
use native.Mathlib.Omega.{arith}
use Prim.Native.Nat.{◌≤◌}
use mir.Syntax.{w16, w32}
use Rattle.sign.specs.Halves.{up}
use Rattle.sign.proofs.Bits.{held, fits-tells}
use Rattle.rules.specs.Numbers.{straight}
use Rattle.requests.specs.Hours.{hour_number}
use Rattle.requests.proofs.OnHours.NumberLaws.{straight-in}
use Rattle.hour_count.proofs.Laws.{in_halves}
use Rattle.std.proofs.Common.{rules}
use Rattle.hour_count.proofs.number_of.Goals as goal

pub returns : goal.returns
unfolding hour_number straight
returns c =
    let year = c.args.date.year in
    let y = held w16 {z = year} (search rules) in
    let b = fits-tells w16 year (record { sfits = search rules }) in
    let d = c.day_of_year-doy.ensures in
    let n = held w32 c.to_binary.type_inv ∙ c.to_binary.ensures in
    let high : up year ≤ 32767 = omega (arith, b.up-less) in
    in_halves (straight-in year _ _ b.dn-most high (rw d.0 at d.1) c.requires.2)
    (rw (n, y, d.0, c.first_hour.ensures) at c.halved.ensures)
