-- A turn of the loop, and its ends: a byte that is no digit, a value that is too large, and the end of the text.
use Rattle.std.proofs.Common.{◌≡◌, length, inl, inr, sym, ◌∙◌, arith}
use Rattle.scalar.proofs.Laws.{goes_on, stops-low, stops-high, stops_end, too_large}
use Rattle.scalar.proofs.to_u64_partial.Goals as goal

pub returns-then-not-is_ascii_digit-clause-result_value : goal.returns-then-not-is_ascii_digit-clause-result_value
returns-then-not-is_ascii_digit-clause-result_value c =
    sym (elim c.if-not-is_ascii_digit.ensures.cases [
      | inl low ↦ stops-low _ _ _ c.loop-at.invariant.fits c.loop-at-test.true low
      | inr high ↦ stops-high _ _ _ c.loop-at.invariant.fits c.loop-at-test.true (omega arith) high
    ]) ∙ c.loop-at.invariant.left

pub returns-then-value-gt-TENTH-clause-result_value : goal.returns-then-value-gt-TENTH-clause-result_value
returns-then-value-gt-TENTH-clause-result_value c =
    let d = c.if-not-is_ascii_digit.ensures.cases in
    sym (goes_on _ _ _ c.loop-at-test.true d.0 d.1 ∙ too_large _ _ (omega arith)) ∙ c.loop-at.invariant.left

pub returns-then-value-gt-MOST-clause-result_value : goal.returns-then-value-gt-MOST-clause-result_value
returns-then-value-gt-MOST-clause-result_value c =
    let d = c.if-not-is_ascii_digit.ensures.cases in
    sym (goes_on _ _ _ c.loop-at-test.true d.0 d.1 ∙ too_large _ _ (omega arith)) ∙ c.loop-at.invariant.left

pub loop-at-preserved : goal.loop-at-preserved
loop-at-preserved c =
    let d = c.if-not-is_ascii_digit.ensures.cases in
    record { left = rw c.from.ensures (sym (goes_on _ _ _ c.loop-at-test.true d.0 d.1) ∙ c.loop-at.invariant.left); fits = omega arith }

pub returns-clause-result_value : goal.returns-clause-result_value
returns-clause-result_value c =
    let e : c.loop-at.at ≡ length c.args.s.now = omega arith in
    rw (← e) (sym (stops_end _ _ _ c.loop-at.invariant.fits c.loop-at-test.false) ∙ c.loop-at.invariant.left)
