-- By the byte at the place.
use Rattle.rules.specs.Text.{one_or_two}
use Rattle.rules.proofs.Shared.Rests.{past}
use Rattle.dotted.proofs.Laws.{found}
use Rattle.dotted.proofs.one_or_two.Goals as goal

pub returns-in-Some : goal.returns-in-Some
unfolding one_or_two
returns-in-Some c =
    let g = c.in-Some.ensures.lookup.3 in
    rw (c.second_digit.ensures, found _ _ _ g.0 (g.1 0), ← c.if-is_ascii_digit.ensures.value)

pub returns-in_default : goal.returns-in_default
unfolding one_or_two
returns-in_default c =
    let g = c.in-Some.ensures.lookup.3 in
    rw (found _ _ _ g.0 (g.1 0), ← c.if-is_ascii_digit.ensures.value)

pub returns-in_default-2 : goal.returns-in_default-2
unfolding one_or_two
returns-in_default-2 c = rw (past _ _ (rw c.in_default.is at c.get.ensures.lookup.3))
