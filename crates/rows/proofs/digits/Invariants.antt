-- What the digits from here on make of the value so far is what is to be answered, and the value has at most 18 digits.
use Rattle.std.proofs.Common.{◌≡◌, ◌≤◌, drop}
use Rattle.rows.specs.Rows.{most_of_row, row_digits}
use Rattle.rows.proofs.digits.Given as goal

abbrev pub invariant-loop-at : goal.invariant-loop-at
invariant-loop-at l = record { left : row_digits l.value (drop l.at l.s) ≡ row_digits 0 (drop l.from l.s); fits : l.value ≤ most_of_row }
