-- Up to the line end.
use Rattle.std.proofs.Common.{◌≡◌, arith}
use Rattle.spans.specs.Bytes.{index_of}
use Rattle.rules.proofs.Shared.Rests.{to_end}
use Rattle.script.proofs.telling.line.Goals as goal

pub returns : goal.returns
returns g c =
    let e : c.find-n.result ≡ index_of 10 c.args.row.now = omega (arith, rw (to_end c.args.row.now 0) at c.find-n.ensures.value) in rw (← e) c.write_all.ensures.bytes
