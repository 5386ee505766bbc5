-- Two stores.
use Rattle.std.proofs.Common.{[], ◌∷◌}
use lib.Seq.{sets-eq}
use Rattle.rules.proofs.OnSpelling.DecimalLaws.{filled-two}
use Rattle.digits.proofs.put_two.Goals as goal

pub returns : goal.returns
returns c = rw (filled-two _ c.requires.0) (sets-eq (_ ∷ _ ∷ []) c.args.out.now 0 c.requires.1)
