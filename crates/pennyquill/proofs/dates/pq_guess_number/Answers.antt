-- `pennyquill::dates::pq_guess_number` meets its contract: a kind that lacks the operation. Assumes nothing.
use Rattle.std.proofs.Common.{sym, ◌∙◌}
use Rattle.rules.specs.Numbers.{guess_number}
use Rattle.pennyquill.proofs.Laws.{by_code}
use Rattle.pennyquill.proofs.dates.pq_guess_number.Goals as goal

pub returns : goal.returns
unfolding guess_number
returns c = rw (by_code c.kind_of_code.ensures c.in-Some.is, sym c.has_guess.ensures ∙ c.if-has_guess.false) c.not_of_kind-2.ensures
