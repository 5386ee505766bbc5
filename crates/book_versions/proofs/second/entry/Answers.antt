-- The entry over the format, at version 2's.
use Rattle.std.proofs.Common.{ap, ◌∙◌}
use Rattle.rules.specs.Refusals.{given}
use Rattle.book_versions.proofs.Versions.{check-two, entry-two}
use Rattle.book_versions.proofs.second.entry.Goals as goal

pub entry_of-requires : goal.entry_of-requires
entry_of-requires c = ap given (check-two c.args.b.now) ∙ c.requires

pub returns : goal.returns
returns c = c.entry_of.ensures ∙ entry-two c.args.b.now c.args.place
