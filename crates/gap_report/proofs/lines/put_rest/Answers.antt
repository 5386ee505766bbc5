-- Two dates, and the steps where days are counted.
use Rattle.std.proofs.Common.{sym, ◌∙◌, arith}
use Rattle.rules.specs.Spelling.{dotted}
use Rattle.requests.specs.GapReport.{spaced}
use Rattle.kinds.specs.Views.{kind_of}
use Rattle.gap_report.specs.Views.{tallied_as}
use Rattle.gap_report.specs.Walk.{tally_steps}
use Rattle.gap_report.proofs.TextLaws.{named, and-text, dates_text, rest-counted, rest-uncounted}
use Rattle.gap_report.proofs.lines.put_rest.Goals as goal

pub returns-then-counts_days : goal.returns-then-counts_days
returns-then-counts_days c =
    let a = c.args in
    let k = kind_of a.kind in
    let t = tallied_as a.t in
    let l₀ = a.out.now in
    let first = c.put_date-latest_at.ensures in
    let second = c.put_date.ensures in
    let steps = c.put_steps.ensures in
    let w = and-text l₀ (spaced (dotted k t.earliest)) (first.value, first.out_after) (spaced (dotted k t.latest)) (omega (arith, c.requires.in_bounds)) (second.value, second.out_after) in
    let told = named l₀ (rest-counted k t (sym c.counts_days.ensures ∙ c.if-counts_days.true)) (omega arith)
    (and-text l₀ (dates_text k t) w (tally_steps t) (omega (arith, c.requires.in_bounds)) (steps.value, steps.out_after)) in
    record { value = told.0; out_after = told.1 }

pub returns : goal.returns
returns c =
    let a = c.args in
    let k = kind_of a.kind in
    let t = tallied_as a.t in
    let l₀ = a.out.now in
    let first = c.put_date-latest_at.ensures in
    let second = c.put_date.ensures in
    let w = and-text l₀ (spaced (dotted k t.earliest)) (first.value, first.out_after) (spaced (dotted k t.latest)) (omega (arith, c.requires.in_bounds)) (second.value, second.out_after) in
    let told = named l₀ (rest-uncounted k t (sym c.counts_days.ensures ∙ c.if-counts_days.false)) (omega arith) w in
    record { value = told.0; out_after = told.1 }
