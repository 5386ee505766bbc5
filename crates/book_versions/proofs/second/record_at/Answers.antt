-- The record over the format, at version 2's.
use Rattle.std.proofs.Common.{◌∙◌}
use Rattle.book_versions.proofs.Versions.{entry-two}
use Rattle.book_versions.proofs.second.record_at.Goals as goal

pub returns : goal.returns
returns c = c.record_of.ensures ∙ entry-two c.args.b.now c.args.place
