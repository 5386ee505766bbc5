-- `request::date_by_text` meets its contract: what the kind's reader answers of the rest. Assumes nothing.
use Rattle.rules.specs.Listing.{date_by}
use Rattle.rules.proofs.OnSpelling.WriteLaws.{tail-lent}
use Rattle.request.proofs.date_by_text.Goals as goal

pub returns : goal.returns
unfolding date_by
returns c = rw (tail-lent c.args.s.now 4) at c.parse.ensures
