-- `fast_date::fast_digits` meets its contract: the value of eight digits, taken apart. Assumes nothing.
use Rattle.fast_date.specs.Fast.{eight}
use Rattle.fast_date.proofs.Eight.{eight-told, parsed-none}
use Rattle.fast_date.proofs.fast_digits.Goals as goal

pub returns-in_err-v : goal.returns-in_err-v
unfolding eight
returns-in_err-v c = rw (parsed-none _ c.in_err-v.ensures.value, c.from_residual.ensures)

pub returns : goal.returns
returns c = eight-told _ c.in_ok-v.v _ c.in_ok-v.ensures.value c.in_ok-v.ensures.result_bound c.settle.ensures
