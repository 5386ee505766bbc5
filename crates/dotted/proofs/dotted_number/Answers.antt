-- By the byte at the place.
use borrow.Author.Tests.{eq-eqb, ne_eqb}
use Rattle.rules.specs.Text.{after_dot}
use Rattle.rules.proofs.Shared.Rests.{past}
use Rattle.dotted.proofs.Laws.{found}
use Rattle.dotted.proofs.dotted_number.Goals as goal

pub returns-in_err-get : goal.returns-in_err-get
unfolding after_dot
returns-in_err-get c = rw (c.from_residual.ensures, past _ _ c.in_err-get.ensures.lookup.3)

pub returns-then-branch-ne46 : goal.returns-then-branch-ne46
unfolding after_dot
returns-then-branch-ne46 c =
    let g = c.in_ok-get.ensures.lookup.3 in rw (found _ _ _ g.0 (g.1 0), ne_eqb _ _ c.if-branch-ne46.true)

pub returns : goal.returns
unfolding after_dot
returns c =
    let g = c.in_ok-get.ensures.lookup.3 in
    rw (c.one_or_two.ensures, found _ _ _ g.0 (g.1 0), eq-eqb _ _ c.if-branch-ne46.false)
