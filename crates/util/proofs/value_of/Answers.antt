-- Eight digits joined to pairs, fours and the eight.
use Rattle.util.proofs.Value.{value-is}
use Rattle.util.proofs.value_of.Goals as goal

pub returns : goal.returns
returns c = value-is c.args.word c.requires
