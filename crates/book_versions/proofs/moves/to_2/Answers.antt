-- What refuses the book refuses the move, and else every record moves.
use Rattle.std.proofs.Common.{sym, ◌∙◌, arith}
use Rattle.rules.specs.Book.{version1}
use Rattle.rules.proofs.OnBook.EntryLaws.{version1-sensible}
use Rattle.requests.specs.Moves.{upward}
use Rattle.refusals.proofs.RefusalLaws.{passed}
use Rattle.book_versions.proofs.RecastLaws.{ones-count}
use Rattle.book_versions.proofs.MovesBy.{move-refusing, move-lays, ones-fit, ones-few, up-ones}
use Rattle.book_versions.proofs.moves.to_2.Goals as goal

pub returns-in_err-n : goal.returns-in_err-n
returns-in_err-n c =
    let kept = move-refusing upward c.args.from.now c.args.to.now _ (sym c.in_err-n.ensures) in
    record { result_value = passed (λ n. n) _ _ c.from_residual.ensures ∙ kept.0; to_after = kept.1 }

pub lay-requires : goal.lay-requires
lay-requires c =
    let s = c.args.from.now in
    let e = sym c.in_ok-n.ensures in
    record {
      least_size_le_size = (omega arith, ones-fit version1 version1-sensible s _ e);
      least_size_le_new_size = (omega arith, omega (arith, ones-few version1 version1-sensible s _ e));
    }

pub returns : goal.returns
returns c =
    let s = c.args.from.now in
    let n = c.in_ok-n.n in
    let done =
    move-lays upward s c.args.to.now _ n (ones-count s 5 7 (omega arith) (omega arith) n) (up-ones s c.args.to.now n (sym c.in_ok-n.ensures)) _ _ c.lay.ensures.result_value c.lay.ensures.to_after in
    record { result_value = done.0; to_after = done.1 }
