-- `listing::listing` meets its contract: an input that is too long, a buffer with room, or a shorter one. Assumes nothing.
use Prim.Native.Nat.{zero-le}
use mathlib.Core.Path.{◌∙◌, sym}
use borrow.Author.Tests.{leb-true, leb-false}
use native.Mathlib.Omega.{arith}
use lib.ListN.{length}
use Rattle.rules.proofs.OnListing.LineLaws.{lists, lists-none}
use Rattle.rules.proofs.OnSpelling.WriteLaws.{wrote, wrote-whole, wrote-short}
use Rattle.listing.specs.Views.{printed}
use Rattle.listing.proofs.listing.Goals as goal

pub returns-then-input-gt-INPUT_LIMIT : goal.returns-then-input-gt-INPUT_LIMIT
returns-then-input-gt-INPUT_LIMIT c =
    let t = c.too_long.ensures in
    let e = lists-none c.args.input.now c.if-input-gt-INPUT_LIMIT.true in
    record { result_value = rw e t.result_value; out_after = rw e t.out_after; result_in_bounds = t.result_in_bounds }

pub returns-then-has_room : goal.returns-then-has_room
returns-then-has_room c =
    let e = lists c.args.input.now c.if-input-gt-INPUT_LIMIT.false in
    let p = c.put_lines.ensures in
    let room = leb-true (length (printed c.args.input.now)) (length c.args.out.now) (sym c.has_room.ensures ∙ c.if-has_room.true) in
    let w = wrote (printed c.args.input.now) c.args.out.now p.value (omega (arith, p.value, room)) p.out_after in
    let s = wrote-whole w in
    record { result_value = rw e s.answered; out_after = rw e s.holds; result_in_bounds = w.room }

pub returns : goal.returns
returns c =
    let e = lists c.args.input.now c.if-input-gt-INPUT_LIMIT.false in
    let s = wrote-short (printed c.args.input.now) c.args.out.now (leb-false _ _ (sym c.has_room.ensures ∙ c.if-has_room.false)) in
    record { result_value = rw e s.answered; out_after = rw e s.holds; result_in_bounds = zero-le }
