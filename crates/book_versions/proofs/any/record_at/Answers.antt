-- Version 2's record where the version byte is 2, else version 1's.
use Rattle.std.proofs.Common.{◌∙◌}
use Rattle.book_versions.proofs.Versions.{entry-as-two, entry-as-one}
use Rattle.book_versions.proofs.any.record_at.Goals as goal

pub returns-then-is_second : goal.returns-then-is_second
returns-then-is_second c = c.record_at.ensures ∙ entry-as-two c.args.b.now c.is_second.ensures c.if-is_second.true c.args.place

pub returns-else-is_second : goal.returns-else-is_second
returns-else-is_second c = c.record_at-else-is_second.ensures ∙ entry-as-one c.args.b.now c.is_second.ensures c.if-is_second.false c.args.place
