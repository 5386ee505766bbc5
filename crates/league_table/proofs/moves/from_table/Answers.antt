-- The source's check, the room, then the length, the version byte and the entries.
use Rattle.std.proofs.Common.{◌∙◌, arith}
use Rattle.std.proofs.Math.ListN.{length-set}
use Rattle.refusals.proofs.RefusalLaws.{passed}
use Rattle.league_table.proofs.Moved.{moved-refusing, moved-over, moved-short, moved-so, fits}
use Rattle.league_table.proofs.moves.from_table.Goals as goal
use Rattle.league_table.proofs.moves.from_table.Goals.{then-n-gt-SHARE-via-then-n-gt-SHARE, then-n-gt-SHARE-via-else-n-gt-SHARE+then-to-n}

pub returns-in_err-n : goal.returns-in_err-n
returns-in_err-n c =
    let kept = moved-refusing c.args.from.now c.args.to.now _ c.in_err-n.ensures in
    record { result_value = passed (λ n. n) _ _ c.from_residual.ensures ∙ kept.0; to_after = kept.1 }

pub returns-then-n-gt-SHARE : goal.returns-then-n-gt-SHARE
returns-then-n-gt-SHARE c =
    let a = c.args in
    elim c.then-n-gt-SHARE.branch [
      | then-n-gt-SHARE-via-then-n-gt-SHARE w ↦
          let kept = moved-over a.from.now a.to.now c.in_ok-n.ensures w.if-n-gt-SHARE.true in
          record { result_value = kept.0; to_after = kept.1 }
      | then-n-gt-SHARE-via-else-n-gt-SHARE+then-to-n w ↦
          let kept = moved-short a.from.now a.to.now c.in_ok-n.ensures w.if-n-gt-SHARE.false w.if-to-n.true in
          record { result_value = kept.0; to_after = kept.1 }
    ]

pub put_all-requires : goal.put_all-requires
put_all-requires c =
    (fits c.args.from.now c.args.to.now c.in_ok-n.ensures, rw length-set (omega (arith, c.put_length.auto, c.if-to-n.false)))

pub returns : goal.returns
returns c =
    let done = moved-so c.args.from.now c.args.to.now c.in_ok-n.ensures c.if-n-gt-SHARE.false c.if-to-n.false c.put_length.ensures c.put_all.ensures in
    record { result_value = done.0; to_after = done.1 }
