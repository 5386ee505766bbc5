-- `listing::passes::put_line` meets its contract: there is room, so the line is written whole. Assumes nothing.
use Rattle.rules.specs.Listing.{line_output}
use Rattle.listing.proofs.PassLaws.{whole}
use Rattle.listing.proofs.passes.put_line.Goals as goal

pub unwrap-requires : goal.unwrap-requires
unwrap-requires c = (whole (line_output c.args.s.now) c.args.out.now c.line.result c.requires c.line.ensures.result_value c.line.ensures.out_after).is

pub returns-clause-value : goal.returns-clause-value
returns-clause-value c = let w = whole (line_output c.args.s.now) c.args.out.now c.line.result c.requires c.line.ensures.result_value c.line.ensures.out_after in rw c.unwrap.ensures at w.answered

pub returns-clause-out_after : goal.returns-clause-out_after
returns-clause-out_after c = (whole (line_output c.args.s.now) c.args.out.now c.line.result c.requires c.line.ensures.result_value c.line.ensures.out_after).holds
