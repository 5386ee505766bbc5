-- `request::numeral::whole32` meets its contract: whether 32 bits hold the number. Assumes nothing.
use Rattle.std.proofs.Common.{ap, ◌∙◌, to_z-of_z}
use Rattle.request.specs.Views.{numeral_as}
use Rattle.request.proofs.NumeralLaws.{whole-told}
use Rattle.request.proofs.numeral.whole32.Goals as goal

pub returns : goal.returns
returns c = ap numeral_as c.ok.ensures.value ∙ whole-told c.args.value _ (rw (to_z-of_z c.ranges.value) at c.try_from.ensures)
