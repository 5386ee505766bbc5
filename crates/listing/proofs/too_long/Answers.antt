-- `listing::too_long` meets its contract. Assumes nothing.
use native.Mathlib.Omega.{arith}
use Prim.Native.Nat.{zero-le}
use mathlib.Core.Path.{refl}
use Rattle.rules.specs.Words.{bytes}
use Rattle.rules.proofs.OnSpelling.WriteLaws.{wrote, wrote-whole, wrote-short}
use Rattle.listing.proofs.too_long.Goals as goal

pub returns-then-out-lt15 : goal.returns-then-out-lt15
returns-then-out-lt15 c =
    let s = wrote-short (bytes "input too long\n") c.args.out.now (omega arith) in
    record { result_value = s.answered; out_after = s.holds; result_in_bounds = zero-le }

pub returns : goal.returns
returns c =
    let w = wrote (bytes "input too long\n") c.args.out.now refl (omega arith) c.copy.ensures in
    let s = wrote-whole w in
    record { result_value = s.answered; out_after = s.holds; result_in_bounds = w.room }
