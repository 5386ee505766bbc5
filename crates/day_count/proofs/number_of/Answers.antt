-- `day_count::number_of` meets its contract: the number of the date's year and its day of year. Assumes nothing.
use Rattle.std.proofs.Common.{rules, w16, to_z-of_z}
use Rattle.rules.specs.Days.{day_number}
use Rattle.day_count.proofs.number_of.Goals as goal

pub returns : goal.returns
unfolding day_number
returns c = rw (to_z-of_z {w = w16} {z = c.args.date.year} (search rules), c.day_of_year-doy.ensures.0) at c.day_number.ensures
