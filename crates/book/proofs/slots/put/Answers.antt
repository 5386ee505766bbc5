-- A copy into a part of the buffer is a run of stores.
use Rattle.frame.proofs.Parts.{put-at}
use Rattle.book.proofs.slots.put.Goals as goal

pub returns : goal.returns
returns c =
    let a = c.args in
    rw c.copy_from_slice.ensures.after (put-at a.b.now a.piece.now a.at c.requires)
