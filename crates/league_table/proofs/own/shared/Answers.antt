-- By the counts of the two leagues.
use Rattle.std.proofs.Common.{◌∙◌, arith}
use borrow.Author.Tests.{lt-leb}
use Rattle.league_table.proofs.Counts.{fewer, not-owned, first-over, then-second}
use Rattle.league_table.proofs.own.shared.Goals as goal

pub overflow_add-first : goal.overflow_add-first
overflow_add-first c =
    let a = c.args in omega (arith, fewer a.n a.b.now 1, fewer a.n a.b.now 2, c.count-first.ensures, c.count-second.ensures)

pub returns-then-first-second : goal.returns-then-first-second
returns-then-first-second c =
    let a = c.args in not-owned a.n a.b.now _ _ c.count-first.ensures c.count-second.ensures c.if-first-second.true

pub returns-then-first-le-SHARE : goal.returns-then-first-le-SHARE
returns-then-first-le-SHARE c =
    let a = c.args in then-second a.n a.b.now _ _ c.count-first.ensures c.count-second.ensures c.if-first-second.false c.if-first-le-SHARE.true

pub returns-else-first-le-SHARE : goal.returns-else-first-le-SHARE
returns-else-first-le-SHARE c =
    let a = c.args in
    lt-leb _ _ c.if-first-le-SHARE.false ∙ first-over a.n a.b.now _ _ c.count-first.ensures c.count-second.ensures c.if-first-second.false c.if-first-le-SHARE.false
