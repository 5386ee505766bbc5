-- A number between two powers of ten.
use Rattle.std.proofs.Common.{sym, ap, length, arith}
use native.Mathlib.Nat.{pow-succ'}
use native.Mathlib.Numerals.{add-one}
use Rattle.rules.proofs.OnSpelling.DecimalLaws.{one-digit, digits-count}
use Rattle.digits.proofs.digits_of.Goals as goal

pub returns-in-0-to-9-clause-value : goal.returns-in-0-to-9-clause-value
returns-in-0-to-9-clause-value c = sym (ap length (one-digit c.args.n (omega arith)))

pub returns-in-0-to-99-clause-value : goal.returns-in-0-to-99-clause-value
returns-in-0-to-99-clause-value c = sym (digits-count 1 _ (omega arith) (omega arith) (omega arith))

pub returns-in-0-to-999-clause-value : goal.returns-in-0-to-999-clause-value
returns-in-0-to-999-clause-value c = sym (digits-count 2 _ (omega arith) (omega arith) (omega arith))

pub returns-in-0-to-9999-clause-value : goal.returns-in-0-to-9999-clause-value
returns-in-0-to-9999-clause-value c = sym (digits-count 3 _ (omega arith) (omega arith) (omega arith))

pub returns-in-0-to-99999-clause-value : goal.returns-in-0-to-99999-clause-value
returns-in-0-to-99999-clause-value c = sym (digits-count 4 _ (omega arith) (omega arith) (omega arith))

pub returns-in_default-clause-value : goal.returns-in_default-clause-value
returns-in_default-clause-value c =
    let k = c.ilog10.result in let e = c.ilog10.ensures in
    rw add-one (sym (digits-count k c.args.n (omega arith) e.power_le (rw pow-succ' e.next_power_gt)))
