-- `day_count::date_of` meets its contract: year, month and day are those of the number. Assumes nothing.
use mathlib.Core.Path.{ap, ◌∙◌}
use native.Mathlib.Omega.{arith}
use Prim.Native.Nat.{◌+◌, ◌%◌}
use mir.Syntax.{w16}
use Rattle.sign.proofs.Bits.{held}
use Rattle.rules.specs.Calendar.{month_day}
use Rattle.rules.specs.Kinds.{stored_with}
use Rattle.rules.proofs.OnCalendar.CalendarLaws.{is-day, length-small}
use Rattle.day_count.proofs.Laws.{date-is}
use Rattle.day_count.proofs.date_of.Goals as goal

-- month and day are bounded, so that the word fits
pub pack-requires : goal.pack-requires
pack-requires c =
    let d = (c.args.up + c.args.dn) % 365 in
    let x = is-day d (omega arith) in
    let l = length-small (month_day d).month x.month-high in
    let e = c.month_day_from_julian-on.ensures in
    (c.requires.4, omega arith, omega arith, omega (arith, c.requires.3))

pub returns : goal.returns
returns c =
    c.pack.ensures
    ∙ ap (stored_with c.args.mark) (date-is _ _ c.requires.0 _ (held w16 c.int-year.type_inv ∙ c.int-year.ensures) c.month_day_from_julian-on.ensures.0 c.month_day_from_julian-on.ensures.1)
