-- `hour_count::date_after` meets its contract: year, month, day and hour are those of the number. Assumes nothing.
use mathlib.Core.Path.{ap, ◌∙◌}
use native.Mathlib.Omega.{arith}
use Prim.Native.Nat.{ℕ, ◌+◌, ◌/◌, ◌%◌}
use mir.Syntax.{w16}
use Rattle.sign.proofs.Bits.{held}
use Rattle.rules.specs.Calendar.{month_day}
use Rattle.rules.specs.Kinds.{stored_with}
use Rattle.rules.proofs.OnCalendar.CalendarLaws.{is-day, length-small}
use Rattle.kinds.specs.Views.{kind_of}
use Rattle.hour_count.proofs.Laws.{first_small, date-is}
use Rattle.hour_count.proofs.date_after.Goals as goal

pub pack-requires : goal.pack-requires
pack-requires c =
    let d = c.args.hours / 24 % 365 in
    let x = is-day d (omega arith) in
    let l = length-small (month_day d).month x.month-high in
    let e = c.month_day_from_julian-on.ensures in
    let h = first_small (kind_of c.args.kind) in
    (c.requires.1, omega arith, omega arith, omega (arith, c.first_hour.ensures))

pub returns : goal.returns
returns c =
    let a = c.args in
    let y = held w16 c.int-year.type_inv ∙ c.int-year.ensures in
    let on = c.month_day_from_julian-on.ensures in
    c.pack.ensures
    ∙ ap (stored_with a.mark)
    (date-is (kind_of a.kind) a.hours y on.0 on.1 (ap (λ (h : ℕ). a.hours % 24 + h) c.first_hour.ensures))
