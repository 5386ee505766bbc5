-- `request::numeral::number` meets its contract: the text from the place on. Assumes nothing.
use Rattle.std.proofs.Common.{ap, ◌∙◌, arith}
use Rattle.rules.specs.Listing.{line_number}
use Rattle.rules.proofs.Shared.Rests.{past}
use Rattle.request.specs.Views.{numeral_as}
use Rattle.request.proofs.numeral.number.Goals as goal

pub returns-in_err-get : goal.returns-in_err-get
unfolding line_number
returns-in_err-get c = ap numeral_as c.from_residual.ensures ∙ rw (past c.args.s.now c.args.from (grind (arith, c.in_err-get.ensures.lookup)))
