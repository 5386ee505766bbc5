-- `day_count::days_until` meets its contract: two dates of the kind, where the kind counts days, have a difference. Assumes nothing.
use Rattle.std.proofs.Common.{rules, sym, ap, ◌∙◌, w32, to_z-of_z}
use Rattle.rules.specs.Refusals.{Gives}
use Rattle.rules.specs.Days.{difference}
use Rattle.rules.proofs.OnKinds.PackLaws.{lacking}
use Rattle.kinds.specs.Views.{opened_as}
use Rattle.day_count.proofs.Laws.{on-calendar}
use Rattle.day_count.proofs.days_until.Goals as goal

pub between-requires : goal.between-requires
between-requires c =
    let counts = sym c.counts_days.ensures ∙ c.if-counts_days.true in
    (on-calendar _ _ _ (sym c.unpack.ensures ∙ ap opened_as c.in_ok-from.was) counts, on-calendar _ _ _ (sym c.unpack-then-counts_days.ensures ∙ ap opened_as c.in_ok-to.was) counts)

pub returns-then-counts_days : goal.returns-then-counts_days
unfolding difference
returns-then-counts_days c =
    rw (sym c.unpack.ensures ∙ ap opened_as c.in_ok-from.was, sym c.unpack-then-counts_days.ensures ∙ ap opened_as c.in_ok-to.was, sym c.counts_days.ensures ∙ c.if-counts_days.true)
    (ap Gives (to_z-of_z {w = w32} (search rules) ∙ c.between.ensures))

pub returns : goal.returns
unfolding difference
returns c = rw (sym c.counts_days.ensures ∙ c.if-counts_days.false, lacking _ _, lacking _ _)
