-- `listing::passes::put_lines` meets its contract: a line more is written in each turn. Assumes nothing.
use native.Mathlib.Omega.{arith}
use mathlib.Core.Path.{ap, ◌∙◌}
use lib.ListN.{length}
use Rattle.listing.proofs.PassLaws.{Step, line_at, measured, left_step, left-room, step_kept, left-none, printed-first, printed-none}
use Rattle.listing.proofs.passes.put_lines.Goals as goal

pub put_line-filled-requires : goal.put_line-filled-requires
put_line-filled-requires c =
    let l = line_at _ _ _ c.loop-from-test.true c.find-end.ensures.value in
    left-room c.loop-from.out _ _ c.loop-from.filled (printed-first _ _ _ l) c.loop-from.invariant.0

pub loop-from-preserved : goal.loop-from-preserved
loop-from-preserved c =
    let l = line_at _ _ _ c.loop-from-test.true c.find-end.ensures.value in
    let p = c.put_line-filled.ensures in
    let step : Step _ _ _ _ _ _ c.loop-from.filled c.put_line-filled.result = record { begins = printed-first _ _ _ l; long = p.value; wrote = p.out_after; left = c.loop-from.invariant.0 } in
    (left_step step, (step_kept step).0 ∙ c.loop-from.invariant.1, measured _ _ _ c.loop-from.filled c.put_line-filled.result _ l p.value c.loop-from.invariant.2)

pub returns : goal.returns
returns c =
    let e = printed-none c.args.s.now c.loop-from.from c.loop-from-test.false in
    record {
      value = omega (arith, ap length e, c.loop-from.invariant.2);
      out_after = left-none _ _ _ e c.loop-from.invariant.0;
    }
