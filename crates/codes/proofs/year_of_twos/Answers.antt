-- `codes::year_of_twos` meets its contract: the year's two's complement is the number. Assumes nothing.
use Rattle.std.proofs.Common.{rules, ◌≡◌, ℤ, pos, negsuc, refl, sym, ap, ◌∙◌, arith, to_z-of_z, w16, of_z}
use mir.Facts.{of_z-to_z}
use Rattle.rules.specs.Book.{twos_complement, year_of_twos}
use Rattle.rules.proofs.OnBook.EntryLaws.{year-back}
use Rattle.sign.proofs.Bits.{fits-tells}
use Rattle.codes.proofs.year_of_twos.Goals as goal

twos-is : (y : ℤ) → twos_complement y ≡ of_z w16 y
twos-is (pos n) = refl
twos-is (negsuc n) = refl

pub returns : goal.returns
returns c =
    let y = c.cast_signed.result in
    let w = fits-tells w16 y (search rules) in
    let e : twos_complement y ≡ c.args.twos = twos-is y ∙ ap (of_z w16) c.cast_signed.ensures ∙ of_z-to_z c.ranges.twos in
    to_z-of_z {w = w16} {z = y} (search rules) ∙ sym (sym (ap year_of_twos e) ∙ year-back y (omega (arith, w.up-less)) (omega (arith, w.dn-most)))
