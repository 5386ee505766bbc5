-- `day_count::add_days` meets its contract: a date of the kind, where the kind counts days, is moved. Assumes nothing.
use Rattle.std.proofs.Common.{sym, ap, ◌∙◌, arith, to_z-of_z}
use Rattle.rules.specs.Days.{add_days}
use Rattle.rules.proofs.OnKinds.PackLaws.{lacking}
use Rattle.kinds.specs.Views.{opened_as}
use Rattle.refusals.proofs.RefusalLaws.{some-of}
use Rattle.day_count.proofs.Laws.{on-calendar, hour-low}
use Rattle.day_count.proofs.add_days.Goals as goal

pub moved-requires : goal.moved-requires
moved-requires c =
    let f = sym c.unpack.ensures ∙ ap opened_as (some-of _ _ c.ok_or.ensures.value c.in_ok-fields.was) in
    (on-calendar _ _ _ f (sym c.counts_days.ensures ∙ c.if-counts_days.true), rw c.summed_hour-hour.ensures (hour-low _ _ _ f), omega (arith, c.mark_of.ensures))

pub returns-then-counts_days : goal.returns-then-counts_days
unfolding add_days
returns-then-counts_days c =
    let f = sym c.unpack.ensures ∙ ap opened_as (some-of _ _ c.ok_or.ensures.value c.in_ok-fields.was) in
    rw (f, sym c.counts_days.ensures ∙ c.if-counts_days.true)
    (rw (to_z-of_z c.ranges.days, c.summed_hour-hour.ensures, c.mark_of.ensures) at c.moved.ensures)

pub returns : goal.returns
unfolding add_days
returns c = rw (sym c.counts_days.ensures ∙ c.if-counts_days.false, lacking _ _)
