-- What refuses the check refuses the walk, and else its numbers are written.
use Rattle.std.proofs.Common.{◌≡◌, ◌-◌, ◌/◌, length, sym, ap, ◌∙◌}
use Rattle.rules.specs.Refusals.{Gives}
use Rattle.requests.specs.Fours.{least}
use Rattle.refusals.proofs.RefusalLaws.{passed}
use Rattle.book_versions.specs.Walk.{walked_over}
use Rattle.book_versions.proofs.WalkLaws.{walk-gives, walk-refusing, least-min}
use Rattle.book_versions.proofs.any.records.Goals as goal

pub returns-in_err-n : goal.returns-in_err-n
returns-in_err-n c =
    let kept = walk-refusing c.args.b.now c.args.place c.args.out.now _ c.in_err-n.ensures in
    record { result_value = passed (λ n. n) _ _ c.from_residual.ensures ∙ kept.0; out_after = kept.1 }

pub returns : goal.returns
unfolding walked_over
returns c =
    let a = c.args in
    let told = walk-gives a.b.now a.place a.out.now c.in_ok-n.ensures in
    let count : c.min-count.result ≡ least (c.in_ok-n.n - a.place) (length a.out.now / 4) =
    rw c.saturating_sub.ensures at c.min-count.ensures ∙ least-min _ _ in
    record { result_value = ap Gives count ∙ sym told; out_after = rw (told, ← count) c.put_records.ensures }
