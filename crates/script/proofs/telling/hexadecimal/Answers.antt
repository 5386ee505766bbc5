-- Two digits more.
use Rattle.std.proofs.Common.{◌≡◌, [], Some, false, get_or, ap, ◌∙◌, subst, arith}
use Rattle.std.proofs.KnownBytes.{Appends-trans}
use Rattle.std.proofs.lemmas.Fmt.{hex_byte}
use Rattle.std.specs.Io.KnownBytes.{Appends}
use Rattle.std.specs.Option.{IfSome, option_map}
use Rattle.std.specs.Fmt.{styled_digits_output, padded_integral, format_spec}
use Rattle.script.specs.Telling.{two_digits}
use Rattle.script.proofs.Told.{two_more}
use Rattle.script.proofs.telling.hexadecimal.Goals as goal

pub loop-byte-preserved : goal.loop-byte-preserved
loop-byte-preserved g c =
    let i = c.loop-byte.byte-index in
    let s = c.args.buffer.now in
    let b = get_or s i 0 in
    let spec = format_spec 32 0 4 2 18446744073709551615 in
    let digits : styled_digits_output c.in_radix.result c.laid_out.result ≡ Some (two_digits b) =
    rw c.laid_out.ensures (ap (option_map (padded_integral spec false [])) c.in_radix.ensures ∙ ap Some (hex_byte false b (omega (arith, c.type_inv.buffer i)))) in
    let wrote = subst (λ o. IfSome o (Appends (g.W.Write.contents c.loop-byte.out) (g.W.Write.contents c.write.new.self))) digits c.in_ok-write.ensures.bytes in
    subst (Appends _ _) (two_more s i (omega (arith, c.loop-byte-test.true))) (Appends-trans _ _ _ _ _ c.loop-byte.invariant wrote)
