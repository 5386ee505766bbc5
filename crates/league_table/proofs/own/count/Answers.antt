-- The places of the league's first key and of the one after its last.
use Rattle.std.proofs.Common.{arith}
use Rattle.field_table.specs.Search.{entries_in}
use Rattle.league_table.proofs.Counts.{places}
use Rattle.league_table.proofs.own.count.Goals as goal

pub overflow_sub-result : goal.overflow_sub-result
overflow_sub-result c =
    let a = c.args in
    omega (arith, rw c.key_for-past.ensures at c.place_of.ensures, c.start-first.ensures, places a.league (entries_in 3 a.n a.b.now))

pub returns : goal.returns
returns c =
    let a = c.args in
    omega (arith, rw c.key_for-past.ensures at c.place_of.ensures, c.start-first.ensures, places a.league (entries_in 3 a.n a.b.now))
