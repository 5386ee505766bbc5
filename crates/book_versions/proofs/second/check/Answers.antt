-- The check over the format, at version 2's.
use Rattle.std.proofs.Common.{◌∙◌}
use Rattle.book_versions.proofs.Versions.{check-two}
use Rattle.book_versions.proofs.second.check.Goals as goal

pub returns : goal.returns
returns c = c.check_of.ensures ∙ check-two c.args.b.now
