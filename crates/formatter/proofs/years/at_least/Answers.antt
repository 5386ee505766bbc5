-- `formatter::years::at_least` meets its contract. Assumes nothing.
use native.Mathlib.Omega.{arith}
use Rattle.rules.proofs.OnSpelling.DecimalLaws.{digits-most}
use Rattle.digits.proofs.Places.{filled-own, filled_more}
use Rattle.formatter.proofs.years.at_least.Goals as goal

pub returns-then-own-width-clause-n_value : goal.returns-then-own-width-clause-n_value
returns-then-own-width-clause-n_value c =
    filled_more _ _ _ (omega arith) c.digits_of-own.ensures.value c.if-own-width.true

pub returns-clause-n_value : goal.returns-clause-n_value
returns-clause-n_value c =
    filled-own _ _ _ (omega arith) c.digits_of-own.ensures.value c.if-own-width.false

pub returns-clause-upper_bound : goal.returns-clause-upper_bound
returns-clause-upper_bound c =
    let most = digits-most c.args.n (omega arith) 4 (omega arith) in omega (arith, c.digits_of-own.ensures.value)
