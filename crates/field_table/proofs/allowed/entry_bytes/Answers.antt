-- The field's two bytes and the code.
use Rattle.std.proofs.Common.{◌≡◌, ◌/◌, ◌%◌, arith}
use Rattle.rules.proofs.OnWords.ByteLaws.{two-bytes-of}
use Rattle.requests.specs.FieldTable.{entry_bytes}
use Rattle.field_table.proofs.allowed.entry_bytes.Goals as goal

pub returns : goal.returns
unfolding entry_bytes
returns c =
    let field = c.args.field in
    let high : field / 256 % 256 ≡ field / 256 = omega arith in
    rw (two-bytes-of field (omega arith), c.to_be_bytes.ensures, c.kind_code.ensures, high)
