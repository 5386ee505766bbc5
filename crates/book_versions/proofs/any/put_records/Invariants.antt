-- The numbers of i records are written.
use Rattle.std.proofs.Common.{◌≡◌, ◌*◌, ◌++◌, drop}
use Rattle.requests.specs.Fours.{fours}
use Rattle.book_versions.specs.Walk.{numbers_from}
use Rattle.book_versions.proofs.any.put_records.Given as goal

abbrev pub invariant-loop-i : goal.invariant-loop-i
invariant-loop-i l = l.out ≡ fours (numbers_from l.b l.place) l.i ++ drop (l.i * 4) l.initial.out
