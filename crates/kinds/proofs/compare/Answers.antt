-- `kinds::compare` meets its contract: two dates of the kind are in the order of their fields. Assumes nothing.
use Rattle.std.proofs.Common.{sym, ap, ◌∙◌}
use Rattle.rules.specs.Refusals.{given}
use Rattle.kinds.specs.Views.{kind_of, bits_of, opened_as}
use Rattle.kinds.proofs.Laws.{in_order}
use Rattle.kinds.proofs.compare.Goals as goal

pub returns : goal.returns
returns c =
    let a = c.args in
    c.order_of.ensures ∙ sym (in_order (kind_of a.kind) (bits_of a.first) (bits_of a.second)
    (ap given (sym c.unpack.ensures ∙ ap opened_as c.in_ok-unpack.was)) (ap given (sym c.unpack-2.ensures ∙ ap opened_as c.in_ok-unpack-2.was)))
