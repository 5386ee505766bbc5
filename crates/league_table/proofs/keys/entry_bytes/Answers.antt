-- The key's three bytes and the code.
use Rattle.std.proofs.Common.{◌≡◌, ◌/◌, ◌%◌, arith}
use Rattle.requests.specs.FieldTable.{entry_bytes}
use Rattle.league_table.proofs.Counts.{three-bytes-of}
use Rattle.league_table.proofs.keys.entry_bytes.Goals as goal

pub returns : goal.returns
unfolding entry_bytes
returns c =
    let key = c.args.key in
    let high : key / 65536 % 256 ≡ key / 65536 = omega arith in
    rw (three-bytes-of key (omega arith), c.to_be_bytes.ensures, c.kind_code.ensures, high)
