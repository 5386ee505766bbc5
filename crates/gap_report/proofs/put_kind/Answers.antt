-- The line of what the walk for the kind tells is the kind's.
use Rattle.kinds.specs.Views.{kind_of}
use Rattle.gap_report.specs.Walk.{of_book}
use Rattle.gap_report.proofs.TallyLaws.{line-is}
use Rattle.gap_report.proofs.put_kind.Goals as goal

pub returns : goal.returns
returns c =
    rw (← (line-is (kind_of c.args.kind) (of_book (kind_of c.args.kind) c.args.b.now)), ← c.walk.ensures.result_value) c.put_line.ensures
