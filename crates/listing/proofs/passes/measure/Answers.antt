-- `listing::passes::measure` meets its contract: a line more is measured in each turn, and no input prints over 12 bytes for each of its
-- own. Assumes nothing.
use native.Mathlib.Omega.{arith}
use mathlib.Core.Path.{ap, ◌∙◌}
use lib.ListN.{length}
use Rattle.rules.proofs.OnListing.LineLaws.{printed-long}
use Rattle.listing.proofs.PassLaws.{line_at, measured, printed-none}
use Rattle.listing.proofs.passes.measure.Goals as goal

pub overflow_add-total : goal.overflow_add-total
overflow_add-total c =
    let l = line_at _ _ _ c.loop-at-test.true c.find-end.ensures.value in
    let h = printed-long c.args.s.now in
    let e = measured _ _ _ c.loop-at.total c.build-total.result _ l c.build-total.ensures.value.0 c.loop-at.invariant.0 in
    omega (arith, h, e, c.requires)

pub loop-at-preserved : goal.loop-at-preserved
loop-at-preserved c =
    let l = line_at _ _ _ c.loop-at-test.true c.find-end.ensures.value in
    (measured _ _ _ c.loop-at.total c.build-total.result _ l c.build-total.ensures.value.0 c.loop-at.invariant.0, c.build-total.auto.out ∙ c.loop-at.invariant.1)

pub returns : goal.returns
returns c =
    let e = printed-none c.args.s.now c.loop-at.at c.loop-at-test.false in omega (arith, ap length e, c.loop-at.invariant.0)
