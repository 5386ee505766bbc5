-- What is left to be written, over the buffer as it is, is what is to be there at the end.
use Rattle.std.proofs.Common.{◌≡◌, ◌++◌, drop}
use Rattle.digits.specs.Places.{placed, digits_in}
use Rattle.digits.proofs.put_digits.Given as goal

abbrev pub invariant-loop-i : goal.invariant-loop-i
invariant-loop-i l = (digits_in l.i l.m ++ drop l.i l.out ≡ placed (digits_in l.w l.n) l.fn.out)
