-- Nothing of a kind that has no records, and steps where the kind counts days.
use Rattle.std.proofs.Common.{◌≡◌, pos, ◌-ℤ◌, sym, ◌∙◌, to_z, of_z, w64, rules, arith}
use Rattle.std.proofs.Math.IntN.{sub_ℕ}
use borrow.Author.Tests.{eq-eqb, ne_eqb}
use Rattle.sign.proofs.Bits.{held}
use Rattle.sign.proofs.Laws.{same, ints}
use Rattle.gap_report.specs.Figures.{tally_figures}
use Rattle.gap_report.proofs.WalkLaws.{apart}
use Rattle.gap_report.proofs.numbers.figures_of.Goals as goal

pub returns-then-t-eq0 : goal.returns-then-t-eq0
unfolding tally_figures
returns-then-t-eq0 c = rw (eq-eqb _ 0 c.if-t-eq0.true)

pub returns-then-counts_days : goal.returns-then-counts_days
unfolding tally_figures
returns-then-counts_days c =
    let t = c.args.t in
    let last : to_z w64 (of_z w64 c.from.result) ≡ pos t.last = held w64 c.from.type_inv ∙ c.from.ensures in
    let first : to_z w64 (of_z w64 c.from-then-counts_days.result) ≡ pos t.first = held w64 c.from-then-counts_days.type_inv ∙ c.from-then-counts_days.ensures in
    let sum : to_z w64 (of_z w64 (pos t.last -ℤ pos t.first)) ≡ pos t.last -ℤ pos t.first = search rules in
    let from : pos t.last -ℤ pos t.first ≡ sub_ℕ t.last t.first = same _ _ (simp ints (omega arith)) in
    rw (
      ne_eqb _ 0 c.if-t-eq0.false,
      sym c.counts_days.ensures ∙ c.if-counts_days.true,
      apart t.first t.last,
      last,
      first,
      sum,
      from,
      held w64 c.from-count.type_inv,
      c.from-count.ensures,
      held w64 c.date_figure-earliest.type_inv,
      c.date_figure-earliest.ensures,
      held w64 c.date_figure-latest.type_inv,
      c.date_figure-latest.ensures,
      held w64 c.from-then-counts_days-2.type_inv,
      c.from-then-counts_days-2.ensures,
      held w64 c.from-then-counts_days-3.type_inv,
      c.from-then-counts_days-3.ensures,
    )

pub returns : goal.returns
unfolding tally_figures
returns c =
    rw (
      ne_eqb _ 0 c.if-t-eq0.false,
      sym c.counts_days.ensures ∙ c.if-counts_days.false,
      held w64 c.from-count.type_inv,
      c.from-count.ensures,
      held w64 c.date_figure-earliest.type_inv,
      c.date_figure-earliest.ensures,
      held w64 c.date_figure-latest.type_inv,
      c.date_figure-latest.ensures,
    )
