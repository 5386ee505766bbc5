-- The key of the first bytes.
use Rattle.std.proofs.Common.{◌≡◌, ◌^◌, ◌<◌, take, drop}
use Rattle.rules.specs.Words.{big_endian}
use Rattle.field_table.proofs.sized.Format.key_at.Given as goal

abbrev pub invariant-loop-byte : goal.invariant-loop-byte
invariant-loop-byte l = (l.key ≡ big_endian (take l.byte-index (drop l.at l.b))) × (l.key < 256 ^ l.byte-index)
