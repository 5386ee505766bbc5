-- `hour_count::add` meets its contract: a date of the kind, where the kind counts in such blocks, is moved. Assumes nothing.
use Rattle.std.proofs.Common.{sym, ap, ◌∙◌, arith, to_z-of_z}
use Rattle.rules.proofs.OnKinds.PackLaws.{lacking}
use Rattle.requests.specs.Hours.{add_count}
use Rattle.refusals.proofs.RefusalLaws.{some-of}
use Rattle.kinds.specs.Views.{kind_of, opened_as}
use Rattle.hour_count.proofs.Laws.{block-most, on-hour}
use Rattle.hour_count.proofs.add.Goals as goal

pub moved-requires : goal.moved-requires
moved-requires c =
    let a = c.args in
    let t = sym c.counts_in.ensures ∙ c.if-counts_in.true in
    let f = sym c.unpack.ensures ∙ ap opened_as (some-of _ _ c.ok_or.ensures.value c.in_ok-fields.was) in
    (on-hour a.block (kind_of a.kind) _ _ f t, block-most a.block (kind_of a.kind) t, omega (arith, c.mark_of.ensures))

pub returns-then-counts_in : goal.returns-then-counts_in
unfolding add_count
returns-then-counts_in c =
    let f = sym c.unpack.ensures ∙ ap opened_as (some-of _ _ c.ok_or.ensures.value c.in_ok-fields.was) in
    rw (f, sym c.counts_in.ensures ∙ c.if-counts_in.true) (rw (to_z-of_z c.ranges.count, c.mark_of.ensures) at c.moved.ensures)

pub returns : goal.returns
unfolding add_count
returns c = rw (sym c.counts_in.ensures ∙ c.if-counts_in.false, lacking _ _)
