-- Eight digits are less than 10 ^ 8.
use Rattle.std.proofs.Common.{sym, ◌∙◌, arith}
use Rattle.util.specs.Word.{bytes_of}
use Rattle.util.proofs.Small.{digits-small}
use Rattle.util.proofs.fast_digit_parse.Goals as goal

pub returns-then-is_digits-clause-result_bound : goal.returns-then-is_digits-clause-result_bound
unfolding bytes_of
returns-then-is_digits-clause-result_bound c =
    omega (arith, c.value_of.ensures, digits-small (bytes_of 8 c.args.word) (sym c.is_digits.ensures ∙ c.if-is_digits.true))
