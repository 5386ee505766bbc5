-- In as many digits as the number has.
use Rattle.std.proofs.Common.{arith}
use Rattle.digits.proofs.Places.{own-digits}
use Rattle.digits.proofs.put_decimal.Goals as goal

pub returns-clause-out_after : goal.returns-clause-out_after
returns-clause-out_after c =
    rw (own-digits c.args.n (omega arith), ← c.digits_of-count.ensures.value) c.put_digits.ensures
