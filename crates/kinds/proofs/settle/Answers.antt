-- `kinds::settle` meets its contract: the maker at the settled hour. Assumes nothing.
use Rattle.std.proofs.Common.{w16}
use Rattle.sign.proofs.Bits.{held}
use Rattle.rules.specs.Kinds.{settled}
use Rattle.kinds.proofs.settle.Goals as goal

pub returns : goal.returns
unfolding settled
returns c = λ n. rw (held w16 {z = c.args.fields.year} c.struct_told-1.given.0.1, c.settled_hour-hour.ensures) at (c.make.ensures n)
