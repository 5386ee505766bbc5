-- `request::date_by_guess` meets its contract: the number of the rest, and what it is read as. Assumes nothing.
use Rattle.std.proofs.Common.{rules, sym, ap, ◌∙◌, w32, to_z-of_z}
use Rattle.rules.specs.Listing.{date_by}
use Rattle.refusals.proofs.RefusalLaws.{some-of, none-of}
use Rattle.kinds.specs.Views.{bits_of}
use Rattle.number.specs.Views.{guessed_as}
use Rattle.request.specs.Views.{numeral_as}
use Rattle.request.proofs.date_by_guess.Goals as goal

pub returns-in_err-n : goal.returns-in_err-n
unfolding date_by
returns-in_err-n c =
    let n = none-of bits_of _ _ c.from_residual.result c.ok_or.ensures.value c.in_err-n.was c.from_residual.ensures in
    n.1 ∙ rw (sym c.number.ensures ∙ ap numeral_as n.0)

pub returns-in_err-date : goal.returns-in_err-date
unfolding date_by
returns-in_err-date c =
    let n = none-of bits_of _ _ c.from_residual-in_err-date.result c.ok_or-2.ensures.value c.in_err-date.was c.from_residual-in_err-date.ensures in
    n.1 ∙ rw (sym c.number.ensures ∙ ap numeral_as (some-of _ _ c.ok_or.ensures.value c.in_ok-n.was))
    (sym (ap guessed_as n.0) ∙ (rw (to_z-of_z {w = w32} {z = c.in_ok-n.n} (search rules)) at c.from_binary_heuristic.ensures))

pub returns : goal.returns
unfolding date_by
returns c =
    rw (sym c.number.ensures ∙ ap numeral_as (some-of _ _ c.ok_or.ensures.value c.in_ok-n.was))
    (sym (ap guessed_as (some-of _ _ c.ok_or-2.ensures.value c.in_ok-date.was)) ∙ (rw (to_z-of_z {w = w32} {z = c.in_ok-n.n} (search rules)) at c.from_binary_heuristic.ensures))
