-- By the byte at the place.
use Rattle.rules.specs.Text.{second_digit}
use Rattle.rules.proofs.Shared.Rests.{past}
use Rattle.dotted.proofs.Laws.{found}
use Rattle.dotted.proofs.second_digit.Goals as goal

pub returns-in-Some : goal.returns-in-Some
unfolding second_digit
returns-in-Some c =
    let g = c.in-Some.ensures.lookup.3 in
    rw (found _ _ _ g.0 (g.1 0), ← c.if-is_ascii_digit.ensures.value)

pub returns-in_default : goal.returns-in_default
unfolding second_digit
returns-in_default c =
    let g = c.in-Some.ensures.lookup.3 in
    rw (found _ _ _ g.0 (g.1 0), ← c.if-is_ascii_digit.ensures.value)

pub returns-in_default-2 : goal.returns-in_default-2
unfolding second_digit
returns-in_default-2 c = rw (past _ _ (rw c.in_default.is at c.get.ensures.lookup.3))
