-- Byte for byte, or a buffer of more than 40 bytes.
use Rattle.script.proofs.Told.{shown_short, shown_long}
use Rattle.script.proofs.telling.show.Goals as goal

pub returns-then-buffer-le-LONGEST_SHOWN : goal.returns-then-buffer-le-LONGEST_SHOWN
returns-then-buffer-le-LONGEST_SHOWN g c = rw (← shown_short c.args.buffer.now c.if-buffer-le-LONGEST_SHOWN.true) c.hexadecimal.ensures

pub returns : goal.returns
returns g c = rw (← shown_long c.args.buffer.now c.weighed-sum.result c.if-buffer-le-LONGEST_SHOWN.false c.weighed-sum.ensures) c.write.ensures.bytes
