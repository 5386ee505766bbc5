-- `listing::passes::has_room` meets its contract: 12 bytes for each are always enough. Assumes nothing.
use native.Mathlib.Omega.{arith}
use borrow.Author.Tests.{le-leb}
use mathlib.Core.Path.{sym}
use lib.ListN.{length}
use Rattle.rules.proofs.OnListing.LineLaws.{printed-long}
use Rattle.listing.specs.Views.{printed}
use Rattle.listing.proofs.passes.has_room.Goals as goal

pub returns-then-s-room : goal.returns-then-s-room
returns-then-s-room c =
    let h = printed-long c.args.s.now in
    sym (le-leb (length (printed c.args.s.now)) c.args.room (omega (arith, h, c.if-s-room.true)))
