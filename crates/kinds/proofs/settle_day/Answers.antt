-- `kinds::settle_day` meets its contract: what passes the test of the hour is packed. Assumes nothing.
use Rattle.std.proofs.Common.{rules, w16, sym, ap, ◌∙◌, arith}
use Rattle.sign.proofs.Bits.{held}
use Rattle.rules.specs.Refusals.{Gives}
use Rattle.rules.specs.Kinds.{with_hour, settled}
use Rattle.kinds.specs.Views.{kind_of, fields_of}
use Rattle.kinds.proofs.Laws.{small, fits-day, made-is}
use Rattle.kinds.proofs.settle_day.Goals as goal

pub pack-requires : goal.pack-requires
pack-requires c =
    let s = small _ _ _ _ (fits-day _ _ _ _ c.requires.le_month (sym c.hour_fits.ensures ∙ c.if-hour_fits.true)) in
    (omega (arith, c.requires.mark_bound), omega (arith, s), s.1, s.2)

pub returns-then-hour_fits : goal.returns-then-hour_fits
unfolding settled
returns-then-hour_fits c =
    λ n.
    let a = c.args in
    rw (← c.settled_hour-hour.ensures, made-is (kind_of a.kind) n (with_hour (fields_of a.fields) c.settled_hour-hour.result) (search rules) (fits-day _ _ _ _ c.requires.le_month (sym c.hour_fits.ensures ∙ c.if-hour_fits.true)))
    (ap Gives (rw (held w16 {z = a.fields.year} c.struct_told-1.given.0.1) at c.pack.ensures))

pub returns : goal.returns
unfolding settled
returns c =
    λ n.
    let a = c.args in
    rw (← c.settled_hour-hour.ensures, made-is (kind_of a.kind) n (with_hour (fields_of a.fields) c.settled_hour-hour.result) (search rules) (fits-day _ _ _ _ c.requires.le_month (sym c.hour_fits.ensures ∙ c.if-hour_fits.false)))
