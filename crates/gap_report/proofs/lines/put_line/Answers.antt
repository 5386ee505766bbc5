-- Letter and count, the rest where the count is not 0, the line's end.
use Rattle.std.proofs.Common.{◌++◌, arith}
use borrow.Author.Tests.{eq-eqb, ne_eqb}
use Rattle.kinds.specs.Views.{kind_of}
use Rattle.gap_report.specs.Views.{tallied_as}
use Rattle.gap_report.specs.Walk.{tally_rest}
use Rattle.gap_report.proofs.TextLaws.{named, and-text, and_byte, count_text, line-none, line-some}
use Rattle.gap_report.proofs.lines.put_line.Goals as goal

pub returns-then-t-eq0 : goal.returns-then-t-eq0
returns-then-t-eq0 c =
    let a = c.args in
    let k = kind_of a.kind in
    let t = tallied_as a.t in
    let l₀ = a.out.now in
    let count = c.put_count-rest_at.ensures in
    let told = named l₀ (line-none k t (eq-eqb _ 0 c.if-t-eq0.true)) (omega arith) (and_byte l₀ (count_text k t) (count.value, count.out_after) 10 (omega (arith, c.requires.in_bounds))) in
    record { value = told.0; out_after = told.1 }

pub returns : goal.returns
returns c =
    let a = c.args in
    let k = kind_of a.kind in
    let t = tallied_as a.t in
    let l₀ = a.out.now in
    let count = c.put_count-rest_at.ensures in
    let rest = c.put_rest.ensures in
    let w = and-text l₀ (count_text k t) (count.value, count.out_after) (tally_rest k t) (omega (arith, c.requires.in_bounds)) (rest.value, rest.out_after) in
    let told = named l₀ (line-some k t (ne_eqb _ 0 c.if-t-eq0.false)) (omega arith) (and_byte l₀ (count_text k t ++ tally_rest k t) w 10 (omega (arith, c.requires.in_bounds))) in
    record { value = told.0; out_after = told.1 }
