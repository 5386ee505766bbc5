-- The code's masks are `rep 8 0xf0` and so on, by computation.
use Rattle.std.proofs.Common.{refl, lit<}
use Rattle.util.proofs.Lanes.{rep}
use Rattle.util.proofs.Swar.{tested}
use Rattle.util.proofs.is_digits.Goals as goal

pub returns : goal.returns
unfolding rep
returns c = tested 64 8 c.args.word _ (lit< tt) refl refl
