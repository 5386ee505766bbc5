-- The two bytes after the kind's.
use Rattle.std.proofs.Common.{◌≡◌, ◌+◌, ◌*◌, slice_index_or, sym, ◌∙◌, arith}
use Rattle.book.proofs.Laws.{field-there}
use Rattle.book.proofs.slots.field_at.Goals as goal

pub returns : goal.returns
returns c =
    let a = c.args in
    let s = a.b.now in
    let two : c.from_be_bytes.result ≡ slice_index_or s (a.at + 1) 0 * 256 + slice_index_or s (a.at + 2) 0 =
    omega (arith, c.from_be_bytes.ensures) in
    two ∙ sym (field-there s a.at a.size c.requires c.if-size-lt-FIELD_RECORD_SIZE.false)
