-- Version 2's entry where the version byte is 2, else version 1's.
use Rattle.std.proofs.Common.{ap, ◌∙◌}
use Rattle.rules.specs.Refusals.{given}
use Rattle.book_versions.proofs.Versions.{check-as-two, check-as-one, entry-as-two, entry-as-one}
use Rattle.book_versions.proofs.any.entry.Goals as goal

pub entry-requires : goal.entry-requires
entry-requires c = ap given (check-as-two c.args.b.now c.is_second.ensures c.if-is_second.true) ∙ c.requires

pub entry-requires-else-is_second : goal.entry-requires-else-is_second
entry-requires-else-is_second c = ap given (check-as-one c.args.b.now c.is_second.ensures c.if-is_second.false) ∙ c.requires

pub returns-then-is_second : goal.returns-then-is_second
returns-then-is_second c = c.entry.ensures ∙ entry-as-two c.args.b.now c.is_second.ensures c.if-is_second.true c.args.place

pub returns-else-is_second : goal.returns-else-is_second
returns-else-is_second c = c.entry-else-is_second.ensures ∙ entry-as-one c.args.b.now c.is_second.ensures c.if-is_second.false c.args.place
