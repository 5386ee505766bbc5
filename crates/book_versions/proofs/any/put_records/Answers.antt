-- One record more.
use Rattle.std.proofs.Common.{ap, arith}
use Rattle.requests.proofs.OnFours.FourLaws.{fours-none, fours-more}
use Rattle.book_versions.specs.Walk.{numbers_of, numbers_from}
use Rattle.book_versions.proofs.WalkLaws.{four-long}
use Rattle.book_versions.proofs.any.put_records.Goals as goal

pub loop-i-init : goal.loop-i-init
loop-i-init c =
    let a = c.args in fours-none (numbers_from a.b.now a.place) (four-long a.b.now a.place) a.out.now

pub loop-i-preserved : goal.loop-i-preserved
loop-i-preserved c =
    let a = c.args in
    let l = c.loop-i in
    fours-more (numbers_from a.b.now a.place) (four-long a.b.now a.place) l.i a.out.now _ _ _ l.invariant (ap numbers_of c.entry.ensures) (omega (arith, c.requires.n_bound)) c.put_numbers.ensures
