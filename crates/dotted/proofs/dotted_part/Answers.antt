-- Each dot is taken with its number; then each call's equation is put in, and what it gave.
use Rattle.rules.specs.Text.{dotted_part}
use Rattle.dotted.proofs.Laws.{then-then}
use Rattle.dotted.proofs.dotted_part.Goals as goal

pub returns-in_err-month : goal.returns-in_err-month
unfolding dotted_part
returns-in_err-month c = λ y. simp then-then (rw (c.from_residual.ensures, ← c.in_err-month.ensures))

pub returns-in_err-day : goal.returns-in_err-day
unfolding dotted_part
returns-in_err-day c =
    λ y. simp then-then (rw (c.from_residual-in_err-day.ensures, ← c.in_ok-month.ensures, ← c.in_err-day.ensures))

pub returns-in_err-hour : goal.returns-in_err-hour
unfolding dotted_part
returns-in_err-hour c =
    λ y. simp then-then (rw (c.from_residual-in_err-hour.ensures, ← c.in_ok-month.ensures, ← c.in_ok-day.ensures, ← c.in_err-hour.ensures))

pub returns : goal.returns
unfolding dotted_part
returns c = λ y. simp then-then (rw (← c.in_ok-month.ensures, ← c.in_ok-day.ensures, ← c.in_ok-hour.ensures))
