-- `kinds::make_wide` meets its contract: one wide number is enough for a refusal. Assumes nothing.
use Rattle.std.proofs.Common.{w16, sym, ◌∙◌, arith, to_z-of_z}
use Rattle.sign.proofs.Bits.{fits-from}
use Rattle.rules.specs.Refusals.{not_of_kind}
use Rattle.kinds.specs.Views.{kind_of}
use Rattle.kinds.proofs.SetLaws.{no-date, outside}
use Rattle.kinds.proofs.make_wide.Goals as goal

pub returns-in_err-ok : goal.returns-in_err-ok
returns-in_err-ok c =
    let a = c.args in
    rw (no-date (kind_of a.kind) not_of_kind (record { year = a.year; month = a.month; day = a.day; hour = a.hour }) (λ t. let f = rw (to_z-of_z c.ranges.year) at c.try_from.ensures in outside _ _ _ f (sym c.ok.ensures.value ∙ c.in_err-ok.was) (fits-from w16 _ (omega (arith, t.year-high)) (omega (arith, t.year-low)))), c.from_residual.ensures)

pub returns-in_err-ok-2 : goal.returns-in_err-ok-2
returns-in_err-ok-2 c =
    let a = c.args in
    rw (no-date (kind_of a.kind) not_of_kind (record { year = a.year; month = a.month; day = a.day; hour = a.hour }) (λ t. outside _ _ _ c.try_from-2.ensures (sym c.ok-2.ensures.value ∙ c.in_err-ok-2.was) (omega (arith, t.month))), c.from_residual-in_err-ok-2.ensures)

pub returns-in_err-ok-3 : goal.returns-in_err-ok-3
returns-in_err-ok-3 c =
    let a = c.args in
    rw (no-date (kind_of a.kind) not_of_kind (record { year = a.year; month = a.month; day = a.day; hour = a.hour }) (λ t. outside _ _ _ c.try_from-3.ensures (sym c.ok-3.ensures.value ∙ c.in_err-ok-3.was) (omega (arith, t.day))), c.from_residual-in_err-ok-3.ensures)

pub returns-in_err-ok-4 : goal.returns-in_err-ok-4
returns-in_err-ok-4 c =
    let a = c.args in
    rw (no-date (kind_of a.kind) not_of_kind (record { year = a.year; month = a.month; day = a.day; hour = a.hour }) (λ t. outside _ _ _ c.try_from-4.ensures (sym c.ok-4.ensures.value ∙ c.in_err-ok-4.was) (omega (arith, t.hour))), c.from_residual-in_err-ok-4.ensures)
