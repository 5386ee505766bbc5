-- The entry over the format, at version 1's.
use Rattle.std.proofs.Common.{ap, ◌∙◌}
use Rattle.rules.specs.Refusals.{given}
use Rattle.book.proofs.Laws.{check-one, entry-one}
use Rattle.book.proofs.entry.Goals as goal

pub entry_of-requires : goal.entry_of-requires
entry_of-requires c = ap given (check-one c.args.b.now) ∙ c.requires

pub returns : goal.returns
returns c = c.entry_of.ensures ∙ entry-one c.args.b.now c.args.place
