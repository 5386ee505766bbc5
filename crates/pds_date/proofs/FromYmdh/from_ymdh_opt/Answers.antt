-- The maker, with the hour of the field set. Assumes nothing.
use Rattle.std.specs.Prelude.{Some, None, refl}
use Rattle.std.proofs.Common.{ap, ◌∙◌}
use Rattle.rules.specs.Refusals.{Gives}
use Rattle.kinds.specs.Views.{kind_of}
use Rattle.kinds.proofs.Laws.{made-answers}
use Rattle.pds_date.proofs.FromYmdh.from_ymdh_opt.Goals as goal

pub returns-in_err-raw : goal.returns-in_err-raw
returns-in_err-raw g c =
    rw c.from_residual.ensures (made-answers (kind_of g.Self.PdsDate.KIND) (record { year = c.args.year; month = c.args.month; day = c.args.day; hour = c.args.hour }) {date = None} (g.met.Self.FromYmdh.carries_hour _) c.ranges.year (rw c.KIND.ensures at c.in_err-raw.ensures) refl)

pub returns : goal.returns
returns g c =
    ap Gives c.of_raw.ensures ∙ made-answers (kind_of g.Self.PdsDate.KIND) (record { year = c.args.year; month = c.args.month; day = c.args.day; hour = c.args.hour }) {date = Some c.in_ok-raw.raw} (g.met.Self.FromYmdh.carries_hour _) c.ranges.year (rw c.KIND.ensures at c.in_ok-raw.ensures) refl
