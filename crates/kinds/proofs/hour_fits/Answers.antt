-- `kinds::hour_fits` meets its contract: the bit of the hour. Assumes nothing.
use native.Mathlib.Omega.{arith}
use Rattle.kinds.specs.Views.{kind_of}
use Rattle.kinds.proofs.HourLaws.{by_bit}
use Rattle.kinds.proofs.hour_fits.Goals as goal

pub returns : goal.returns
returns c = rw c.hours.ensures (by_bit (kind_of c.args.kind) c.args.hour c.ranges.hour.fits (omega arith))
