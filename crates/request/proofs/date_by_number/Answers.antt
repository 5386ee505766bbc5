-- `request::date_by_number` meets its contract: the number of the rest, and what it is read as. Assumes nothing.
use Rattle.std.proofs.Common.{rules, refl, sym, ap, ◌∙◌, w32, to_z-of_z}
use Rattle.rules.specs.Listing.{date_by}
use Rattle.refusals.proofs.RefusalLaws.{some-of, none-of}
use Rattle.kinds.specs.Views.{bits_of}
use Rattle.number.specs.Views.{read_as}
use Rattle.refusals.specs.declared.Refusal.TheVariants.{NotNumber}
use Rattle.request.proofs.Answers.{or-refusal}
use Rattle.request.specs.Views.{numeral_as, asked_as}
use Rattle.request.proofs.date_by_number.Goals as goal

pub returns-in_err-n : goal.returns-in_err-n
unfolding date_by
returns-in_err-n c =
    let n = none-of bits_of _ _ c.from_residual.result c.ok_or.ensures.value c.in_err-n.was c.from_residual.ensures in
    n.1 ∙ rw (sym c.number.ensures ∙ ap numeral_as n.0)

pub returns : goal.returns
unfolding date_by
returns c =
    rw (sym c.number.ensures ∙ ap numeral_as (some-of _ _ c.ok_or.ensures.value c.in_ok-n.was))
    (ap asked_as c.ok_or-2.ensures.value ∙ or-refusal bits_of NotNumber c.from_binary.result read_as (λ t. refl) refl ∙ (rw (to_z-of_z {w = w32} {z = c.in_ok-n.n} (search rules)) at c.from_binary.ensures))
