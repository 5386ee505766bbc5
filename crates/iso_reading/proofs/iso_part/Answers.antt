-- `iso_reading::iso_part` meets its contract: each call's equation is put in, and what it gave. Assumes nothing.
use Rattle.requests.specs.IsoReader.{iso_part}
use Rattle.iso_reading.proofs.iso_part.Goals as goal

pub returns-in_err-month : goal.returns-in_err-month
unfolding iso_part
returns-in_err-month c = λ y. rw (c.from_residual.ensures, ← c.in_err-month.ensures)

pub returns-in_err-day : goal.returns-in_err-day
unfolding iso_part
returns-in_err-day c = λ y. rw (c.from_residual-in_err-day.ensures, ← c.in_ok-month.ensures, ← c.in_err-day.ensures)

pub returns-in_err-hour : goal.returns-in_err-hour
unfolding iso_part
returns-in_err-hour c =
    λ y. rw (c.from_residual-in_err-hour.ensures, ← c.in_ok-month.ensures, ← c.in_ok-day.ensures, ← c.in_err-hour.ensures)

pub returns : goal.returns
unfolding iso_part
returns c = λ y. rw (← c.in_ok-month.ensures, ← c.in_ok-day.ensures, ← c.in_ok-hour.ensures)
