-- What is left has the answer.
use Rattle.std.proofs.Common.{◌≡◌}
use Rattle.requests.specs.FieldTable.{in_order}
use Rattle.field_table.specs.Search.{entries_in}
use Rattle.field_table.proofs.Orders.{order_at}
use Rattle.field_table.proofs.sized.Format.in_order.Given as goal

abbrev pub invariant-loop-i : goal.invariant-loop-i
invariant-loop-i l = order_at l.self.key_size l.n l.b l.i l.last ≡ in_order l.self.key_size (entries_in l.self.key_size l.n l.b)
