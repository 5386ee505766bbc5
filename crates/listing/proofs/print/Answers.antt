-- `listing::print` meets its contract: no listing is longer than the buffer. Assumes nothing.
use Rattle.std.proofs.Common.{arith}
use Rattle.rules.specs.Listing.{listing}
use Rattle.rules.proofs.OnListing.LineLaws.{listing-long}
use Rattle.listing.proofs.PassLaws.{whole}
use Rattle.listing.proofs.print.Goals as goal

pub unwrap-requires : goal.unwrap-requires
unwrap-requires c =
    let h = listing-long c.args.input.now in
    (whole (listing c.args.input.now) c.args.out.now c.listing.result (omega (arith, h, c.requires)) c.listing.ensures.result_value c.listing.ensures.out_after).is

pub returns-clause-value : goal.returns-clause-value
returns-clause-value c =
    let h = listing-long c.args.input.now in
    let w = whole (listing c.args.input.now) c.args.out.now c.listing.result (omega (arith, h, c.requires)) c.listing.ensures.result_value c.listing.ensures.out_after in
    let n = rw c.unwrap.ensures at w.answered in (n, omega (arith, n, h, c.requires))

pub returns-clause-out_after : goal.returns-clause-out_after
returns-clause-out_after c =
    let h = listing-long c.args.input.now in
    (whole (listing c.args.input.now) c.args.out.now c.listing.result (omega (arith, h, c.requires)) c.listing.ensures.result_value c.listing.ensures.out_after).holds
