-- The check over the format, at version 1's.
use Rattle.std.proofs.Common.{◌∙◌}
use Rattle.book.proofs.Laws.{check-one}
use Rattle.book.proofs.check.Goals as goal

pub returns : goal.returns
returns c = c.check_of.ensures ∙ check-one c.args.b.now
