-- The walk over what is left gives what the whole walk gives.
use Rattle.std.proofs.Common.{◌≡◌, ◌≤◌, drop}
use Rattle.requests.specs.Both.{both}
use Rattle.requests.specs.Gaps.{placed_from}
use Rattle.kinds.specs.Views.{kind_of}
use Rattle.gap_report.specs.Views.{tallied_as, Dated}
use Rattle.gap_report.specs.Walk.{records_in, of_book, nothing, tally}
use Rattle.gap_report.proofs.tally.walk.Given as goal

abbrev pub invariant-loop-i : goal.invariant-loop-i
invariant-loop-i l =
    record {
      count : l.t.count ≤ l.i;
      dated : Dated (kind_of l.kind) l.t;
      left : tally (kind_of l.kind) nothing (of_book (kind_of l.kind) l.b)
          ≡ tally (kind_of l.kind) (tallied_as l.t) (placed_from (both l.b) (kind_of l.kind) l.i (drop l.i (records_in l.b)));
    }
