-- The version byte and the length are all that is stored.
use Rattle.std.proofs.Common.{◌∙◌}
use Rattle.rules.proofs.OnBook.AppendAnswers.{new-stores, new-kept, new-given}
use Rattle.frame.proofs.new.Goals as goal

pub returns-then-b-lt-HEAD_SIZE : goal.returns-then-b-lt-HEAD_SIZE
returns-then-b-lt-HEAD_SIZE c =
    let kept = new-kept c.args.version c.args.b.now c.if-b-lt-HEAD_SIZE.true in
    record { result_value = kept.0; b_after = kept.1 }

pub returns : goal.returns
returns c =
    let s = c.args.b.now in
    let room = c.if-b-lt-HEAD_SIZE.false in
    record { result_value = new-given s room; b_after = c.put_length.ensures ∙ new-stores c.args.version s room }
