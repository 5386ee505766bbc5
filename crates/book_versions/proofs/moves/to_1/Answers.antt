-- What refuses the book refuses the move, then a record with a field number or a mark, and else every record moves.
use Rattle.std.proofs.Common.{sym, ◌∙◌, arith}
use Rattle.requests.specs.Second.{version2}
use Rattle.requests.specs.Moves.{downward}
use Rattle.requests.proofs.OnSecond.FieldEntryLaws.{version2-sensible}
use Rattle.refusals.proofs.RefusalLaws.{passed}
use Rattle.book_versions.proofs.RecastLaws.{ones-count}
use Rattle.book_versions.proofs.MovesBy.{move-refusing, move-lays, ones-fit, ones-few, down-stops, down-ones}
use Rattle.book_versions.proofs.moves.to_1.Goals as goal

pub returns-in_err-n : goal.returns-in_err-n
returns-in_err-n c =
    let kept = move-refusing downward c.args.from.now c.args.to.now _ (sym c.in_err-n.ensures) in
    record { result_value = passed (λ n. n) _ _ c.from_residual.ensures ∙ kept.0; to_after = kept.1 }

pub first_bad-more-requires : goal.first_bad-more-requires
first_bad-more-requires c =
    ones-fit version2 version2-sensible c.args.from.now _ (sym c.in_ok-n.ensures)

pub returns-then-more-n : goal.returns-then-more-n
returns-then-more-n c =
    let kept = down-stops c.args.from.now c.args.to.now _ (sym c.in_ok-n.ensures) c.first_bad-more.ensures c.if-more-n.true in
    record { result_value = kept.0; to_after = kept.1 }

pub lay-requires : goal.lay-requires
lay-requires c =
    let s = c.args.from.now in
    let e = sym c.in_ok-n.ensures in
    record {
      least_size_le_size = (omega arith, ones-fit version2 version2-sensible s _ e);
      least_size_le_new_size = (omega arith, omega (arith, ones-few version2 version2-sensible s _ e));
    }

pub returns : goal.returns
returns c =
    let s = c.args.from.now in
    let n = c.in_ok-n.n in
    let done =
    move-lays downward s c.args.to.now _ n (ones-count s 7 5 (omega arith) (omega arith) n) (down-ones s c.args.to.now n (sym c.in_ok-n.ensures) c.first_bad-more.ensures c.if-more-n.false) _ _ c.lay.ensures.result_value c.lay.ensures.to_after in
    record { result_value = done.0; to_after = done.1 }
