-- `formatter::years::signed` meets its contract. Assumes nothing.
use mathlib.Core.Path.{sym, ap}
use mathlib.Core.List.{List, ◌++◌}
use Prim.Native.Nat.{ℕ}
use Rattle.formatter.specs.Pieces.{sign_text, year_text}
use Rattle.formatter.proofs.years.signed.Goals as goal

pub returns-clause-result_value : goal.returns-clause-result_value
unfolding year_text
returns-clause-result_value c = ap (λ (l : List ℕ). sign_text c.args.sign ++ l) (sym c.at_least.ensures.n_value)
