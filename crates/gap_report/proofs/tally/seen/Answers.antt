-- One of the kind is counted, and any other is not.
use Rattle.std.proofs.Common.{◌≡◌, rules, refl, ap, ◌∙◌}
use borrow.Author.Tests.{eq-eqb}
use Rattle.kinds.specs.Views.{kind_of}
use Rattle.book.specs.Views.{found_as}
use Rattle.gap_report.specs.Views.{tallied_as}
use Rattle.gap_report.proofs.WalkLaws.{seen_of, seen_other, seen-refusing, other-kind}
use Rattle.gap_report.proofs.tally.seen.Goals as goal

pub returns-in_default-clause-result_value : goal.returns-in_default-clause-result_value
returns-in_default-clause-result_value c =
    seen-refusing (kind_of c.args.kind) (tallied_as c.args.t) c.args.place _ (ap found_as c.in_default.is)

pub returns-then-ne-clause-result_value : goal.returns-then-ne-clause-result_value
returns-then-ne-clause-result_value c =
    let differ : c.in-Ok.record.kind ≡ c.args.kind → ⊥ = search rules in
    seen_other (kind_of c.args.kind) (tallied_as c.args.t) c.args.place _ (ap found_as c.in-Ok.is) (other-kind c.args.kind c.in-Ok.record.kind differ)

pub returns-clause-result_value : goal.returns-clause-result_value
returns-clause-result_value c =
    let same : c.in-Ok.record.kind ≡ c.args.kind = search rules in
    c.counted.ensures.result_value
    ∙ seen_of (kind_of c.args.kind) (tallied_as c.args.t) c.args.place _ (ap found_as c.in-Ok.is) (rw same (eq-eqb _ _ refl))
