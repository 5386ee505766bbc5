-- `number::decode` meets its contract: the fields settled, with the kind's hour. Assumes nothing.
use Rattle.std.proofs.Common.{w16}
use Rattle.sign.proofs.Bits.{held}
use Rattle.rules.specs.Refusals.{not_number}
use Rattle.rules.specs.Numbers.{decoded}
use Rattle.number.proofs.decode.Goals as goal

pub returns : goal.returns
unfolding decoded
returns c = rw (held w16 {z = c.args.fields.year} c.struct_told-1.given.0.1, c.decoded_hour-hour.ensures) at (c.settle_day.ensures not_number)
