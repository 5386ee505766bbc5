-- Each half leaves the place between low and high.
use Rattle.std.proofs.Common.{◌+◌, ◌-◌, ◌/◌, drop, arith}
use Rattle.rules.specs.Book.{head_size}
use Rattle.rules.proofs.OnBook.PieceLaws.{piece-count}
use Rattle.requests.specs.FieldTable.{key_in}
use Rattle.requests.proofs.OnEntries.OrderLaws.{place-within}
use Rattle.requests.proofs.OnLaid.TurnLaws.{halve-after, halve-before}
use Rattle.field_table.specs.Search.{entries_in}
use Rattle.field_table.proofs.sized.Format.place_of.Goals as goal

pub loop-low-init : goal.loop-low-init
loop-low-init c =
    let a = c.args in
    let k = a.self.key_size in
    (omega arith, omega (arith, place-within (key_in k) a.key (entries_in k a.n a.b.now), piece-count a.n (k + 1) (drop head_size a.b.now)), omega arith)

pub loop-low-preserved-then-key_at-key : goal.loop-low-preserved-then-key_at-key
loop-low-preserved-then-key_at-key c =
    let a = c.args in
    let l = c.loop-low in
    let k = a.self.key_size in
    (halve-after (key_in k) head_size (k + 1) a.n a.b.now (l.low + (l.high - l.low) / 2) a.key c.requires.b_value (omega arith) (omega (arith, c.key_at.ensures.value, c.if-key_at-key.true)), omega arith, omega arith)

pub loop-low-preserved : goal.loop-low-preserved
loop-low-preserved c =
    let a = c.args in
    let l = c.loop-low in
    let k = a.self.key_size in
    (omega arith, halve-before (key_in k) head_size (k + 1) a.n a.b.now (l.low + (l.high - l.low) / 2) a.key c.requires.b_value (omega arith) (omega (arith, c.key_at.ensures.value, c.if-key_at-key.false)), omega arith)
