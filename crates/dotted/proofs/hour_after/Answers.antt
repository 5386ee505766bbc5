-- By the byte after the day.
use borrow.Author.Tests.{ne_eqb}
use Rattle.rules.specs.Text.{after_dot, hour_after}
use Rattle.rules.proofs.Shared.Rests.{past}
use Rattle.dotted.proofs.Laws.{found}
use Rattle.dotted.proofs.hour_after.Goals as goal

pub returns-in-None : goal.returns-in-None
unfolding hour_after
returns-in-None c = rw (past _ _ c.in-None.ensures.lookup.3)

pub returns-in-Some : goal.returns-in-Some
unfolding hour_after after_dot
returns-in-Some c =
    let g = c.in-Some.ensures.lookup.3 in rw (found _ _ _ g.0 (g.1 0), ne_eqb _ _ c.in-Some.field-0-test.1)
