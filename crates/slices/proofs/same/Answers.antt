-- The library compares item by item, and so does the definition.
use Rattle.std.proofs.Common.{◌∙◌}
use Rattle.slices.proofs.Laws.{same_pointwise}
use Rattle.slices.proofs.same.Goals as goal

pub returns : goal.returns
returns c = c.eq.ensures ∙ same_pointwise c.args.a.now c.args.b.now
