-- The digits go into the part after the byte.
use Rattle.std.proofs.Common.{◌≤◌, arith}
use Rattle.std.proofs.Math.ListN.{length-drop}
use Rattle.rules.specs.Spelling.{decimal}
use Rattle.rules.proofs.OnSpelling.WriteLaws.{tail-lent}
use Rattle.gap_report.proofs.TextLaws.{digits-few, after-byte}
use Rattle.gap_report.proofs.lines.put_after.Goals as goal

pub put_decimal-end-requires : goal.put_decimal-end-requires
put_decimal-end-requires c =
    let a = c.args in let d = digits-few a.n (omega arith) in rw (tail-lent a.out.now 1, length-drop) (omega arith)

pub returns : goal.returns
returns c =
    let a = c.args in
    let p = c.put_decimal-end in
    let few : p.result ≤ 20 = omega (arith, digits-few a.n (omega arith), p.ensures.value) in
    let w = after-byte a.out.now a.byte (decimal a.n) (omega arith) ((p.ensures.value, few), p.ensures.out_after) in
    record { value = w.0; out_after = w.1 }
