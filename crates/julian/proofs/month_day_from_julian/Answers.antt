-- A month and a day of the calendar come apart again.
use Rattle.std.proofs.Common.{◌<◌, ℕ, arith}
use Rattle.rules.specs.Calendar.{month_day}
use Rattle.rules.proofs.OnCalendar.CalendarLaws.{is-day, length-small}
use Rattle.julian.proofs.month_day_from_julian.Goals as goal

small : (d : ℕ) → d < 365 → ((month_day d).month < 13) × ((month_day d).day < 32)
small d h = let x = is-day d h in let l = length-small (month_day d).month x.month-high in omega arith

pub overflow_cast-result : goal.overflow_cast-result
overflow_cast-result c = let s = small c.args.day_of_year c.requires in omega arith

pub returns : goal.returns
returns c = let s = small c.args.day_of_year c.requires in (omega arith, omega arith)
