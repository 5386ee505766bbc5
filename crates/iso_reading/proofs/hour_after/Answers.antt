-- `iso_reading::hour_after` meets its contract: nothing follows, or a number of two digits at most. Assumes nothing.
use mathlib.Core.Path.{◌≡◌, sym, refl}
use Rattle.rules.specs.Refusals.{not_text}
use Rattle.rules.proofs.OnRefusals.OutcomeLaws.{outcome-value, outcome-digits}
use Rattle.kinds.specs.Views.{kind_of}
use Rattle.iso_reading.proofs.Laws.{no-hour, an-hour}
use Rattle.iso_reading.proofs.hour_after.Goals as goal

pub returns-then-s-at : goal.returns-then-s-at
returns-then-s-at c = rw (no-hour (kind_of c.args.kind) _ _ c.if-s-at.true)

pub returns-in_err-hour : goal.returns-in_err-hour
returns-in_err-hour c = rw (an-hour (kind_of c.args.kind) _ _ c.if-s-at.false, ← c.in_err-hour.ensures, c.from_residual.ensures)

pub named_hour-requires : goal.named_hour-requires
named_hour-requires c = outcome-value (outcome-digits {R = λ n. n ≡ not_text} refl _) (sym c.in_ok-hour.ensures)

pub returns : goal.returns
returns c = rw (an-hour (kind_of c.args.kind) _ _ c.if-s-at.false, ← c.in_ok-hour.ensures, c.named_hour.ensures)
