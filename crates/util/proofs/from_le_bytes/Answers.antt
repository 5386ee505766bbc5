-- The library's sum of eight bytes has those bytes.
use Rattle.std.proofs.Common.{rules}
use Rattle.util.proofs.Bytes.{bytes-back}
use Rattle.util.proofs.from_le_bytes.Goals as goal

pub returns : goal.returns
returns c = bytes-back c.args.bytes _ (search rules) (search rules) c.from_le_bytes.ensures
