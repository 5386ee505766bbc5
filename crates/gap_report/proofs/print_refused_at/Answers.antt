-- The place and the line's end after the refusal.
use Rattle.std.proofs.Common.{refl, ◌++◌, arith}
use Rattle.rules.specs.Refusals.{RefusedAt}
use Rattle.rules.specs.Words.{bytes}
use Rattle.rules.specs.Spelling.{decimal}
use Rattle.requests.specs.GapReport.{spaced, printed}
use Rattle.gap_report.proofs.TextLaws.{named, and-text, and_byte}
use Rattle.gap_report.proofs.print_refused_at.Goals as goal

pub returns : goal.returns
unfolding printed
returns c =
    let l₀ = c.args.out.now in
    let front = bytes "refused" ++ spaced (decimal c.args.n) in
    let place = spaced (decimal c.args.place) in
    let e = c.put_refused-at.ensures in
    let p = c.put_number.ensures in
    let w = and-text l₀ front (e.value, e.out_after) place (omega (arith, c.requires)) (p.value, p.out_after) in
    let all = named l₀ {t = printed (RefusedAt c.args.n c.args.place)} refl (omega arith) (and_byte l₀ (front ++ place) w 10 (omega (arith, c.requires))) in
    record { value = all.0; out_after = all.1 }
