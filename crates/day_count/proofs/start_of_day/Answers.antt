-- `day_count::start_of_day` meets its contract: the fields of the date handed in, with hour 0. Assumes nothing.
use Rattle.std.proofs.Common.{rules, sym, ap, ◌∙◌, arith, w16, to_z-of_z}
use Rattle.rules.specs.Refusals.{Gives}
use Rattle.rules.specs.Days.{start_of_day}
use Rattle.rules.proofs.OnKinds.PackLaws.{lacking}
use Rattle.kinds.specs.Views.{opened_as}
use Rattle.kinds.proofs.Laws.{handed-small}
use Rattle.day_count.proofs.start_of_day.Goals as goal

pub pack-requires : goal.pack-requires
pack-requires c =
    let s = handed-small _ _ _ (sym c.unpack.ensures ∙ ap opened_as c.in_ok-fields.was) in
    (omega (arith, c.mark_of.ensures), s.0, s.1, omega arith)

pub returns-then-has_start : goal.returns-then-has_start
unfolding start_of_day
returns-then-has_start c =
    rw (sym c.unpack.ensures ∙ ap opened_as c.in_ok-fields.was, sym c.has_start.ensures ∙ c.if-has_start.true)
    (ap Gives (rw (to_z-of_z {w = w16} {z = c.in_ok-fields.fields.year} (search rules), c.mark_of.ensures) at c.pack.ensures))

pub returns : goal.returns
unfolding start_of_day
returns c = rw (sym c.has_start.ensures ∙ c.if-has_start.false, lacking _ _)
