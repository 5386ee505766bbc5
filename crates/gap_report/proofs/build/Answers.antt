-- Two lines after two, in the order of the codes.
use Rattle.std.proofs.Common.{◌++◌, arith}
use Rattle.rules.specs.Kinds.{kR, kD, kH, kU, kE, kV}
use Rattle.requests.specs.GapReport.{kind_line, report_text}
use Rattle.rules.specs.Listing.{joined}
use Rattle.gap_report.specs.Walk.{of_book, two_lines}
use Rattle.gap_report.proofs.TextLaws.{named, and-text}
use Rattle.gap_report.proofs.SixLaws.{by-twos}
use Rattle.gap_report.proofs.build.Goals as goal

pub returns : goal.returns
unfolding report_text joined
returns c =
    let s = c.args.b.now in
    let l₀ = c.args.out.now in
    let a = two_lines kR kD s in
    let d = two_lines kH kU s in
    let one = c.put_two-hour_at.ensures in
    let two = c.put_two.ensures in
    let three = c.put_two-2.ensures in
    let w = and-text l₀ a (one.value, one.out_after) d (omega (arith, c.requires.in_bounds)) (two.value, two.out_after) in
    let all = and-text l₀ (a ++ d) w (two_lines kE kV s) (omega (arith, c.requires.in_bounds)) (three.value, three.out_after) in
    let told = named l₀ (by-twos (kind_line kR (of_book kR s)) (kind_line kD (of_book kD s)) (kind_line kH (of_book kH s)) (kind_line kU (of_book kU s)) (kind_line kE (of_book kE s)) (kind_line kV (of_book kV s))) (omega arith) all in
    record { value = told.0; out_after = told.1 }
