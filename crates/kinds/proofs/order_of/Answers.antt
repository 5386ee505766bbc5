-- `kinds::order_of` meets its contract: the library's comparison is the definition's. Assumes nothing.
use Rattle.std.proofs.Common.{sym, ap, ◌∙◌}
use Rattle.std.specs.Prelude.{Some, ◌/◌}
use Rattle.rules.specs.Days.{Same, by_n}
use Rattle.kinds.specs.Views.{bits_of, ordered_as}
use Rattle.kinds.proofs.Laws.{order-words, unequal-years, equal-years, by-words}
use Rattle.kinds.proofs.order_of.Goals as goal

pub returns-in-Equal : goal.returns-in-Equal
returns-in-Equal c =
    let s = c.args in
    rw (order-words (bits_of s.first) (bits_of s.second), equal-years s.first.year s.second.year (by_n (s.first.word / 4) (s.second.word / 4) Same) (sym c.cmp.ensures ∙ c.in-Equal.is))
    (ap (λ o. ordered_as (Some o)) c.cmp-in-Equal.ensures ∙ by-words (s.first.word / 4) (s.second.word / 4))

pub returns-in_default : goal.returns-in_default
returns-in_default c =
    let s = c.args in
    rw (order-words (bits_of s.first) (bits_of s.second))
    (ap (λ o. ordered_as (Some o)) c.cmp.ensures ∙ unequal-years s.first.year s.second.year (by_n (s.first.word / 4) (s.second.word / 4) Same) (λ e. c.in_default.not-Equal (c.cmp.ensures ∙ e)))
