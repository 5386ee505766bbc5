-- The record over the format, at version 1's.
use Rattle.std.proofs.Common.{◌∙◌}
use Rattle.book.proofs.Laws.{entry-one}
use Rattle.book.proofs.record_at.Goals as goal

pub returns : goal.returns
returns c = c.record_of.ensures ∙ entry-one c.args.b.now c.args.place
