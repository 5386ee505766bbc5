-- No room, or the length, the version byte and the records.
use Rattle.std.proofs.Common.{drop}
use Rattle.rules.specs.Book.{head_size, pieces}
use Rattle.book_versions.specs.Recast.{recast_all}
use Rattle.book_versions.proofs.RecastLaws.{ones-count, body-long, lay-stores, lay-kept, lay-gives}
use Rattle.book_versions.proofs.moves.lay.Goals as goal

pub returns-then-to-room_for : goal.returns-then-to-room_for
returns-then-to-room_for c =
    let a = c.args in
    let size = a.new.size in
    let rs = recast_all a.size size (pieces a.n a.size (drop head_size a.from.now)) in
    let count = ones-count a.from.now a.size size c.requires.least_size_le_size.0 c.requires.least_size_le_new_size.0 a.n in
    let kept = lay-kept size a.new.version rs a.n count a.to.now (rw c.room_for.ensures at c.if-to-room_for.true) in
    record { result_value = kept.0; to_after = kept.1 }

pub returns : goal.returns
returns c =
    let a = c.args in
    let size = a.new.size in
    let old = c.requires.least_size_le_size in
    let new = c.requires.least_size_le_new_size in
    let rs = recast_all a.size size (pieces a.n a.size (drop head_size a.from.now)) in
    let count = ones-count a.from.now a.size size old.0 new.0 a.n in
    let long = body-long a.from.now a.size size old.0 new.0 a.n old.1 in
    record {
      result_value = lay-gives size a.new.version rs a.n count a.to.now (rw c.room_for.ensures at c.if-to-room_for.false);
      to_after = lay-stores size a.new.version rs a.n count a.to.now _ _ long (rw c.room_for.ensures at c.if-to-room_for.false) c.put_length.ensures c.recast_all.ensures;
    }
