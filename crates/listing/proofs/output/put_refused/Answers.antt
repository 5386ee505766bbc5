-- `listing::output::put_refused` meets its contract: the fixed word after the letter, a digit, the line's end. Assumes nothing.
use mathlib.Core.Path.{refl, ◌∙◌}
use native.Mathlib.Omega.{arith}
use lib.Dec.{lit≤}
use Rattle.rules.specs.Words.{bytes}
use Rattle.rules.specs.Spelling.{digit}
use Rattle.rules.proofs.OnSpelling.DecimalLaws.{one-digit}
use Rattle.rules.proofs.OnSpelling.WriteLaws.{wrote-byte-tail, wrote-byte, wrote-placed}
use Rattle.listing.proofs.LineTexts.{refusal-line, placed-as}
use Rattle.listing.proofs.output.put_refused.Goals as goal

pub returns : goal.returns
returns c =
    let w = wrote-byte-tail c.args.out.now (bytes " refused ") c.args.front 10 refl (omega arith) c.copy.ensures in
    let all = wrote-byte 10 (wrote-byte (digit c.args.n) w (omega arith)) (omega arith) in
    record {
      value = (rw (one-digit _ c.requires.0), lit≤ tt);
      out_after = wrote-placed all ∙ placed-as c.args.out.now (refusal-line _ _ c.requires.0);
    }
