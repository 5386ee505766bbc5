-- The answer of `one_or_two` is put in, and then the tests.
use native.Mathlib.Omega.{arith}
use borrow.Author.Tests.{eq-eqb, ne_eqb}
use Rattle.rules.specs.Text.{one_or_two, after_dot, hour_after}
use Rattle.rules.proofs.Shared.Rests.{here, past}
use Rattle.dotted.proofs.Laws.{found}
use Rattle.dotted.proofs.hour_at.Goals as goal

pub returns-in_err-zero_first : goal.returns-in_err-zero_first
unfolding hour_after after_dot one_or_two
returns-in_err-zero_first c = rw (c.from_residual.ensures, past _ _ c.in_err-zero_first.ensures.lookup.3)

pub returns-then-zero_first : goal.returns-then-zero_first
unfolding hour_after after_dot
returns-then-zero_first c =
    let g = c.in_ok-zero_first.ensures.lookup.3 in rw (found _ _ _ g.0 (g.1 0), eq-eqb c.in_ok-zero_first.field-0.now 48 (omega arith))

pub returns-in_err-hour : goal.returns-in_err-hour
unfolding hour_after after_dot
returns-in_err-hour c =
    let g = c.in_ok-zero_first.ensures.lookup.3 in
    rw (c.from_residual-in_err-hour.ensures, ← c.in_err-hour.ensures, found _ _ _ g.0 (g.1 0), ne_eqb c.in_ok-zero_first.field-0.now 48 c.if-zero_first.false)

pub returns-then-hour-s : goal.returns-then-hour-s
unfolding hour_after after_dot
returns-then-hour-s c =
    let g = c.in_ok-zero_first.ensures.lookup.3 in
    rw (← c.in_ok-hour.ensures, found _ _ _ g.0 (g.1 0), ne_eqb c.in_ok-zero_first.field-0.now 48 c.if-zero_first.false, here _ _ c.if-hour-s.true)

pub returns : goal.returns
unfolding hour_after after_dot
returns c =
    let g = c.in_ok-zero_first.ensures.lookup.3 in
    rw (← c.in_ok-hour.ensures, found _ _ _ g.0 (g.1 0), ne_eqb c.in_ok-zero_first.field-0.now 48 c.if-zero_first.false, past _ _ c.if-hour-s.false)
