-- What parsing eight bytes gives: the decimal value, where all are digits. Assumes nothing.
use Rattle.std.specs.Prelude.{ℕ, cond, List, Option, Some, None}
use Rattle.rules.specs.Text.{decimal_value}
use Rattle.util.specs.Word.{all_digits}

abbrev pub parsed : List ℕ → Option ℕ
parsed bs = cond (all_digits bs) (Some (decimal_value bs)) None

-- the value, for the callers' arithmetic
abbrev pub value_of : Option ℕ → ℕ
value_of (Some v) = v
value_of None = 0
