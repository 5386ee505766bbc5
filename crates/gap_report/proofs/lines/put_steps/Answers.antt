-- Three texts, one after the other.
use Rattle.std.proofs.Common.{◌++◌, ap, arith}
use Rattle.std.proofs.Math.IntN.{sub_ℕ}
use Rattle.rules.specs.Spelling.{decimal}
use Rattle.requests.specs.GapReport.{spaced, signed}
use Rattle.gap_report.proofs.TextLaws.{named, and-text}
use Rattle.gap_report.proofs.WalkLaws.{apart}
use Rattle.gap_report.proofs.lines.put_steps.Goals as goal

pub returns : goal.returns
returns c =
    let t = c.args.t in
    let l₀ = c.args.out.now in
    let s = spaced (decimal t.step) in
    let p = spaced (decimal t.place) in
    let step = c.put_number-place_at.ensures in
    let place = c.put_number.ensures in
    let sum = c.put_signed.ensures in
    let w = and-text l₀ s (step.value, step.out_after) p (omega (arith, c.requires)) (place.value, place.out_after) in
    let all = and-text l₀ (s ++ p) w (spaced (signed (sub_ℕ t.last t.first))) (omega (arith, c.requires)) (sum.value, sum.out_after) in
    let told = named l₀ (ap (λ z. s ++ p ++ spaced (signed z)) (apart t.first t.last)) (omega arith) all in
    record { value = told.0; out_after = told.1 }
