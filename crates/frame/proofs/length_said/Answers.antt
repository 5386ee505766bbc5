-- The length that a frame says, from its four bytes.
use Rattle.std.proofs.Common.{arith}
use Rattle.rules.proofs.OnWords.ByteLaws.{four_bytes}
use Rattle.frame.proofs.length_said.Goals as goal

pub returns : goal.returns
returns c = omega (arith, c.from_be_bytes.ensures, four_bytes c.args.b.now c.requires)
