-- The place is neither below low nor above high.
use Rattle.std.proofs.Common.{◌-◌, ◌≤◌}
use Rattle.requests.specs.Entries.{place}
use Rattle.requests.specs.FieldTable.{key_in}
use Rattle.field_table.specs.Search.{entries_in}
use Rattle.field_table.proofs.sized.Format.place_of.Given as goal

abbrev pub invariant-loop-low : goal.invariant-loop-low
invariant-loop-low l =
    let at = place (key_in l.self.key_size) l.key (entries_in l.self.key_size l.n l.b) in
    (l.low ≤ at) × (at ≤ l.high) × (l.high ≤ l.n)

abbrev pub decreases-loop-low : goal.decreases-loop-low
decreases-loop-low l = l.high - l.low
