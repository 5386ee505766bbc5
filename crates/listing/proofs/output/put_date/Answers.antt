-- `listing::output::put_date` meets its contract: byte by byte and text by text. Assumes nothing.
use mathlib.Core.Path.{refl}
use mathlib.Core.List.{[]}
use Prim.Native.Nat.{zero-le}
use native.Mathlib.Omega.{arith}
use Rattle.rules.specs.Kinds.{unpacked}
use Rattle.rules.specs.Spelling.{dotted, iso}
use Rattle.rules.proofs.OnSpelling.WriteLaws.{wrote, wrote-byte, wrote-part, wrote-placed}
use Rattle.kinds.specs.Views.{kind_of, bits_of}
use Rattle.listing.proofs.output.put_date.Goals as goal

pub returns-clause-out_after : goal.returns-clause-out_after
returns-clause-out_after c =
    let k = kind_of c.args.kind in
    let f = unpacked (bits_of c.args.date) in
    let w = wrote-byte 32 (wrote-byte c.letter.result (wrote [] c.args.out.now refl zero-le refl) (omega arith)) (omega arith) in
    let v = wrote-part (dotted k f) w c.put_dotted-space.ensures.value.0 (omega arith) c.put_dotted-space.ensures.out_after in
    let x = wrote-part (iso k f) (wrote-byte 32 v (omega arith)) c.put_iso.ensures.value.0 (omega arith) c.put_iso.ensures.out_after in
    rw (← c.letter.ensures) (wrote-placed (wrote-byte 10 x (omega arith)))
