-- `number::from_binary_heuristic` meets its contract: no kind's guess passes so early a number. Assumes nothing.
use Rattle.std.proofs.Common.{sym, ◌∙◌, to_z-of_z}
use borrow.Author.Tests.{ltb-true}
use Rattle.kinds.specs.Views.{kind_of}
use Rattle.number.proofs.GuessLaws.{early}
use Rattle.number.proofs.from_binary_heuristic.Goals as goal

pub returns-then-is_early : goal.returns-then-is_early
returns-then-is_early c =
    let l = ltb-true _ _ (sym (rw (to_z-of_z c.ranges.s) at c.is_early.ensures) ∙ c.if-is_early.true) in
    rw (early c.args.s (kind_of c.args.kind) c.requires l)
