-- The number of entries of a checked table is what its length says.
use Rattle.std.proofs.Common.{arith}
use Rattle.field_table.proofs.Calls.{checked-count, checked-head}
use Rattle.field_table.proofs.entries_in.Goals as goal

pub length_said-requires : goal.length_said-requires
length_said-requires c = omega (arith, checked-head c.args.b.now c.requires)

pub overflow_sub-result : goal.overflow_sub-result
overflow_sub-result c = omega (arith, checked-head c.args.b.now c.requires, c.length_said.ensures)

pub returns : goal.returns
returns c = rw c.length_said.ensures (checked-count c.args.b.now c.requires)
