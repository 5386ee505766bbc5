-- `pennyquill::dates::pq_read_number` meets its contract: a kind that lacks the operation. Assumes nothing.
use Rattle.std.proofs.Common.{sym, ◌∙◌}
use Rattle.rules.specs.Numbers.{read_number}
use Rattle.pennyquill.proofs.Laws.{by_code}
use Rattle.pennyquill.proofs.dates.pq_read_number.Goals as goal

pub returns : goal.returns
unfolding read_number
returns c = rw (by_code c.kind_of_code.ensures c.in-Some.is, sym c.reads_numbers.ensures ∙ c.if-reads_numbers.false) c.not_of_kind-2.ensures
