-- The length, then the date that the text names. Assumes nothing.
use Rattle.std.proofs.Common.{sym, ap, ◌∙◌}
use Rattle.rules.specs.Refusals.{Gives}
use Rattle.kinds.specs.Views.{kind_of}
use Rattle.iso_reading.proofs.Texts.{too_long_lem, iso-read}
use Rattle.pds_date.proofs.PdsDate.parse_iso.Goals as goal

pub returns-then-s-gt-TEXT_LIMIT : goal.returns-then-s-gt-TEXT_LIMIT
returns-then-s-gt-TEXT_LIMIT g c = sym (too_long_lem (kind_of g.Self.PdsDate.KIND) _ c.if-s-gt-TEXT_LIMIT.true)

pub returns-in_default : goal.returns-in_default
returns-in_default g c = (rw c.KIND.ensures at c.in_default.ensures) ∙ iso-read (kind_of g.Self.PdsDate.KIND) _ c.if-s-gt-TEXT_LIMIT.false

pub returns : goal.returns
returns g c =
    ap Gives c.of_raw.ensures ∙ (rw c.KIND.ensures at c.in-Some.ensures) ∙ iso-read (kind_of g.Self.PdsDate.KIND) _ c.if-s-gt-TEXT_LIMIT.false
