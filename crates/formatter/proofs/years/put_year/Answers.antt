-- `formatter::years::put_year` meets its contract: the digits go into the part after the sign. Assumes nothing.
use Rattle.std.proofs.Common.{rules, length-drop, arith}
use Rattle.rules.proofs.OnSpelling.WriteLaws.{byte-tail, tail-lent}
use Rattle.digits.specs.Places.{digits_in}
use Rattle.digits.proofs.Places.{digits-length}
use Rattle.formatter.specs.Pieces.{year_text}
use Rattle.formatter.proofs.years.put_year.Goals as goal

pub slice_bounds-put_digits-count : goal.slice_bounds-put_digits-count
unfolding year_text
slice_bounds-put_digits-count c = let r = rw (c.in-Some.is, digits-length _ _) at c.requires in omega arith

pub slice_bounds-put_digits-start : goal.slice_bounds-put_digits-start
unfolding year_text
slice_bounds-put_digits-start c = let r = rw (c.in-Some.is, digits-length _ _) at c.requires in omega arith

pub put_digits-requires : goal.put_digits-requires
unfolding year_text
put_digits-requires c =
    let r = rw (c.in-Some.is, digits-length _ _) at c.requires in rw (tail-lent c.args.out.now 1, length-drop) (omega arith)

pub bounds-out-0 : goal.bounds-out-0
unfolding year_text
bounds-out-0 c = let r = rw (c.in-Some.is, digits-length _ _) at c.requires in search rules

pub put_digits-requires-in-None : goal.put_digits-requires-in-None
unfolding year_text
put_digits-requires-in-None c = rw (c.in-None.is, digits-length _ _) at c.requires

pub returns-in-Some : goal.returns-in-Some
unfolding year_text
returns-in-Some c =
    let r = rw (c.in-Some.is, digits-length _ _) at c.requires in
    rw c.in-Some.is (byte-tail c.args.out.now (digits_in c.args.year.digits c.args.year.size) _ _ (omega arith) c.put_digits.ensures)

pub returns-in-None : goal.returns-in-None
unfolding year_text
returns-in-None c = rw c.in-None.is c.put_digits-in-None.ensures
