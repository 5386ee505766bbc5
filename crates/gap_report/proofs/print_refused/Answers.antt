-- The line's end after the refusal.
use Rattle.std.proofs.Common.{refl, ◌++◌, arith}
use Rattle.rules.specs.Refusals.{Refused}
use Rattle.rules.specs.Words.{bytes}
use Rattle.rules.specs.Spelling.{decimal}
use Rattle.requests.specs.GapReport.{spaced, printed}
use Rattle.gap_report.proofs.TextLaws.{named, and_byte}
use Rattle.gap_report.proofs.print_refused.Goals as goal

pub returns : goal.returns
unfolding printed
returns c =
    let l₀ = c.args.out.now in
    let e = c.put_refused-end.ensures in
    let w = named l₀ {t = printed (Refused c.args.n)} refl (omega arith) (and_byte l₀ (bytes "refused" ++ spaced (decimal c.args.n)) (e.value, e.out_after) 10 (omega (arith, c.requires))) in
    record { value = w.0; out_after = w.1 }
