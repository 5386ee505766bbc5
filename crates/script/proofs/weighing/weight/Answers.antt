-- The byte as it is, and the place modulo 2^32 first.
use Rattle.std.proofs.Common.{ℕ, ◌+◌, ◌*◌, ◌%◌, ap, ◌∙◌}
use Rattle.script.proofs.Weighed.{weight-of}
use Rattle.script.proofs.weighing.weight.Goals as goal

pub returns : goal.returns
returns c = let a = c.args in ap (λ (b : ℕ). (a.i % 4294967296 + 1) * b % 4294967296) c.from.ensures ∙ weight-of a.i a.byte
