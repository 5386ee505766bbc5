-- A turn of the loop, and its ends: a byte that is no digit, a value that is too large, and the end of the row.
use Rattle.std.proofs.Common.{◌+◌, ◌*◌, ◌-◌, length, get_or, inl, inr, sym, ◌∙◌, arith}
use Rattle.rules.proofs.Shared.Rests.{past}
use Rattle.rows.specs.Views.{nowhere}
use Rattle.rows.proofs.Laws.{digit-goes-on, digit_low, digit-high, digit-end, digit-too-large}
use Rattle.rows.proofs.digits.Goals as goal

pub returns-then-not-is_ascii_digit : goal.returns-then-not-is_ascii_digit
returns-then-not-is_ascii_digit c =
    let f = c.found.ensures in
    let l = c.loop-at in
    elim c.if-not-is_ascii_digit.ensures.cases [
      | inl low ↦ rw (← l.invariant.left, digit_low _ _ _ l.invariant.fits c.loop-at-test.true low, f.0, f.1, f.2)
      | inr high ↦ rw (← l.invariant.left, digit-high _ _ _ l.invariant.fits c.loop-at-test.true (omega arith) high, f.0, f.1, f.2)
    ]

pub returns-then-value-gt99999999999999999 : goal.returns-then-value-gt99999999999999999
returns-then-value-gt99999999999999999 c =
    let l = c.loop-at in
    let d = c.if-not-is_ascii_digit.ensures.cases in
    rw (
      past c.args.s.now nowhere (omega arith),
      ← l.invariant.left,
      digit-goes-on _ _ _ c.loop-at-test.true d.0 d.1,
      digit-too-large (l.value * 10 + (get_or c.args.s.now l.at 0 - 48)) _ (omega arith),
    )

pub loop-at-preserved : goal.loop-at-preserved
loop-at-preserved c =
    let d = c.if-not-is_ascii_digit.ensures.cases in
    record { left = rw c.from.ensures (sym (digit-goes-on _ _ _ c.loop-at-test.true d.0 d.1) ∙ c.loop-at.invariant.left); fits = omega arith }

pub returns : goal.returns
returns c =
    let f = c.found-2.ensures in
    let s = c.args.s.now in
    rw (← c.loop-at.invariant.left, digit-end _ _ _ c.loop-at.invariant.fits c.loop-at-test.false, f.0, f.1, f.2, past s (length s) (omega arith), past s _ c.loop-at-test.false)
