-- Kind by kind, in the order of the codes.
use Rattle.std.proofs.Common.{ap, ◌∙◌, List, ◌++◌, drop, ℤ, arith}
use Rattle.rules.specs.Kinds.{kR, kD, kH, kU, kE, kV}
use Rattle.gap_report.specs.Walk.{of_book}
use Rattle.gap_report.specs.Figures.{kind_figures, together, figures_of}
use Rattle.gap_report.proofs.FigureLaws.{six-long, none_filled, six-more}
use Rattle.gap_report.proofs.SixLaws.{in_order}
use Rattle.gap_report.proofs.numbers.put_all.Goals as goal

pub returns : goal.returns
unfolding figures_of together
returns c =
    let s = c.args.b.now in
    let r = of_book kR s in
    let d = of_book kD s in
    let h = of_book kH s in
    let u = of_book kU s in
    let e = of_book kE s in
    let v = of_book kV s in
    let a = six-more (kind_figures kR r) _ (none_filled c.args.out.now) (six-long kR r) (omega arith) c.put_kind.ensures in
    let b = six-more (kind_figures kD d) _ a (six-long kD d) (omega arith) c.put_kind-2.ensures in
    let f = six-more (kind_figures kH h) _ b (six-long kH h) (omega arith) c.put_kind-3.ensures in
    let g = six-more (kind_figures kU u) _ f (six-long kU u) (omega arith) c.put_kind-4.ensures in
    let i = six-more (kind_figures kE e) _ g (six-long kE e) (omega arith) c.put_kind-5.ensures in
    let j = six-more (kind_figures kV v) _ i (six-long kV v) (omega arith) c.put_kind-6.ensures in
    j.is ∙ ap (λ (l : List ℤ). l ++ drop 36 c.args.out.now) (in_order (kind_figures kR r) (kind_figures kD d) (kind_figures kH h) (kind_figures kU u) (kind_figures kE e) (kind_figures kV v))
