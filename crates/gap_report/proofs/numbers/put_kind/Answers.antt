-- What the walk for the kind tells is the kind's.
use Rattle.std.proofs.Common.{◌≡◌, ◌+◌, ◌-◌, length, ap, ◌∙◌}
use Rattle.frame.proofs.Parts.{put-at}
use Rattle.kinds.specs.Views.{kind_of}
use Rattle.gap_report.specs.Figures.{kind_figures, tally_figures}
use Rattle.gap_report.specs.Walk.{of_book}
use Rattle.gap_report.proofs.FigureLaws.{six-long}
use Rattle.gap_report.proofs.TallyLaws.{figures-are}
use Rattle.gap_report.proofs.numbers.put_kind.Goals as goal

pub returns : goal.returns
returns c =
    let a = c.args in
    let k = kind_of a.kind in
    let six = kind_figures k (of_book k a.b.now) in
    let is : c.copy_from_slice.new.self ≡ six =
    c.copy_from_slice.ensures.after ∙ c.figures_of.ensures ∙ ap (tally_figures k) c.walk.ensures.result_value ∙ figures-are k (of_book k a.b.now) in
    let long : length six ≡ 6 = six-long k (of_book k a.b.now) in
    let n : a.at + 6 - a.at ≡ a.at + length six - a.at = rw long in
    rw (is, n) (put-at a.out.now six a.at (rw long c.requires.at_in_bounds))
