-- The word without its mark.
use Rattle.std.proofs.Common.{ℕ, ◌*◌, ◌/◌, ap, ◌∙◌, pos, w64}
use Rattle.sign.proofs.Bits.{held}
use Rattle.kinds.specs.Views.{bits_of}
use Rattle.gap_report.proofs.FigureLaws.{number-alone}
use Rattle.gap_report.proofs.numbers.date_figure.Goals as goal

pub returns : goal.returns
returns c =
    held w64 c.from.type_inv ∙ c.from.ensures ∙ ap pos (ap (λ (n : ℕ). n / 4 * 4) c.date_number.ensures ∙ number-alone (bits_of c.args.date))
