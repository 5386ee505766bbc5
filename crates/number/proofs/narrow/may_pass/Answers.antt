-- `number::narrow::may_pass` meets its contract, kind by kind. Assumes nothing.
use Rattle.std.proofs.Common.{◌%◌, arith, to_z-of_z}
use borrow.Author.Tests.{leb-false, eqb-false}
use Rattle.number.proofs.GuessLaws.{hour-d, hour-e, early-h, early-v}
use Rattle.number.proofs.narrow.may_pass.Goals as goal

pub returns-in-Date : goal.returns-in-Date
returns-in-Date c =
    let h = rw (to_z-of_z c.ranges.s) at c.halved-h.ensures in
    λ e. rw c.in-Date.is (hour-d _ (λ z. eqb-false (c.halved-h.result.up % 24) 0 e (omega (arith, h.up_is, z))))

pub returns-in-Hour : goal.returns-in-Hour
returns-in-Hour c =
    let h = rw (to_z-of_z c.ranges.s) at c.halved-h.ensures in
    λ e. rw c.in-Hour.is (early-h _ (omega (arith, h.up_is, leb-false 43791240 c.halved-h.result.up e)))

pub returns-in-Eu5 : goal.returns-in-Eu5
returns-in-Eu5 c =
    let h = rw (to_z-of_z c.ranges.s) at c.halved-h.ensures in
    λ e. rw c.in-Eu5.is (hour-e _ (λ z. eqb-false (c.halved-h.result.up % 2) 0 e (omega (arith, h.up_is, z))))

pub returns-in-Vic3 : goal.returns-in-Vic3
returns-in-Vic3 c =
    let h = rw (to_z-of_z c.ranges.s) at c.halved-h.ensures in
    λ e. rw c.in-Vic3.is (early-v _ (omega (arith, h.up_is, leb-false 43808760 c.halved-h.result.up e)))
