-- Version 2's check where the version byte is 2, else version 1's.
use Rattle.std.proofs.Common.{◌∙◌}
use Rattle.book_versions.proofs.Versions.{check-as-two, check-as-one}
use Rattle.book_versions.proofs.any.check.Goals as goal

pub returns-then-is_second : goal.returns-then-is_second
returns-then-is_second c = c.check.ensures ∙ check-as-two c.args.b.now c.is_second.ensures c.if-is_second.true

pub returns-else-is_second : goal.returns-else-is_second
returns-else-is_second c = c.check-else-is_second.ensures ∙ check-as-one c.args.b.now c.is_second.ensures c.if-is_second.false
