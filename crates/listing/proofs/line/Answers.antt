-- `listing::line` meets its contract: the line is built in a room of its own, and copied where there is room. Assumes nothing.
use native.Mathlib.Omega.{arith}
use Prim.Native.Nat.{zero-le}
use Rattle.rules.specs.Listing.{line_output}
use Rattle.rules.proofs.OnSpelling.WriteLaws.{wrote, wrote-whole, wrote-short}
use Rattle.formatter.proofs.Texts.{taken, copied}
use Rattle.listing.proofs.line.Goals as goal

pub returns-then-out-n : goal.returns-then-out-n
returns-then-out-n c =
    let s = wrote-short (line_output c.args.s.now) c.args.out.now (omega (arith, c.build-n.ensures.value.0)) in
    record { result_value = s.answered; out_after = s.holds; result_in_bounds = zero-le }

pub returns : goal.returns
returns c =
    let b = c.build-n in
    let w = wrote (line_output c.args.s.now) c.args.out.now b.ensures.value.0 c.if-out-n.false
    (copied (line_output c.args.s.now) _ c.args.out.now _ (taken (line_output c.args.s.now) _ b.new.out b.result b.ensures.value.0 b.ensures.out_after) c.copy.ensures) in
    let s = wrote-whole w in
    record { result_value = s.answered; out_after = s.holds; result_in_bounds = w.room }
