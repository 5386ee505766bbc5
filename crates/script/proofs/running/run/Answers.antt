-- The row of the turn, and those that are left.
use Rattle.std.proofs.Common.{◌≡◌, ℕ, suc, List, ◌-◌, Ok, take, drop, slice_range, refl, sym, ap, ◌∙◌, subst, rules, arith, of_calls, length-drop}
use lib.Seq.{drop-drop}
use Rattle.rules.proofs.Shared.Rests.{past}
use Rattle.rows.specs.Rows.{row_length}
use Rattle.script.specs.Running.{CallsAt}
use Rattle.script.proofs.Turns.{turn-done, turn-failed}
use Rattle.script.proofs.running.run.Goals as goal

pub returns-in_err-step : goal.returns-in_err-step
returns-in_err-step g c =
    let s = c.args.script.now in
    let at = c.loop-at.at in
    let k = row_length (drop at s) in
    let long : c.next_line-end.result - at ≡ k = omega (arith, c.next_line-end.ensures.value) in
    let calls : List ℕ → Type 0 = λ row. CallsAt (λ f o s r o' f'. goal.F-step g f o s r o' f') c.loop-at.step c.loop-at.out row c.step.result c.step.new.self c.step.new.arg2 in
    let made : calls (slice_range s at c.next_line-end.result) = search rules in
    let call : calls (take k (drop at s)) = subst calls (ap (λ m. take m (drop at s)) long) made in
    let x = c.loop-at.invariant.2 1 c.from_residual.result c.step.new.self c.step.new.arg2
    (turn-failed (CallsAt (λ f o s r o' f'. goal.F-step g f o s r o' f')) c.loop-at.step c.loop-at.out (drop at s) c.from_residual.result _ c.step.result c.step.new.self c.step.new.arg2 (rw length-drop (omega (arith, c.loop-at-test.true))) c.in_err-step.was (search rules) call) in
    (x.0, _, x.1)

pub loop-at-preserved : goal.loop-at-preserved
loop-at-preserved g c =
    let s = c.args.script.now in
    let at = c.loop-at.at in
    let k = row_length (drop at s) in
    let long : c.next_line-end.result - at ≡ k = omega (arith, c.next_line-end.ensures.value) in
    let calls : List ℕ → Type 0 = λ row. CallsAt (λ f o s r o' f'. goal.F-step g f o s r o' f') c.loop-at.step c.loop-at.out row c.step.result c.step.new.self c.step.new.arg2 in
    let made : calls (slice_range s at c.next_line-end.result) = search rules in
    let call : calls (take k (drop at s)) = subst calls (ap (λ m. take m (drop at s)) long) made in
    let left : drop c.next_line-end.result s ≡ drop k (drop at s) = ap (λ m. drop m s) c.next_line-end.ensures.value ∙ sym (drop-drop k at s) in (
      search of_calls parts 8,
      search rules,
      λ n r last w p. c.loop-at.invariant.2 (suc n) r last w
          (turn-done (CallsAt (λ f o s r o' f'. goal.F-step g f o s r o' f')) n c.loop-at.step c.loop-at.out (drop at s) r last w c.step.result c.step.new.self c.step.new.arg2 (rw length-drop (omega (arith, c.loop-at-test.true))) c.in_ok-step.was call (rw (← left) p)),
    )

pub returns : goal.returns
returns g c =
    let x = c.loop-at.invariant.2 0 (Ok tt) c.loop-at.step c.loop-at.out (past c.args.script.now c.loop-at.at (omega (arith, c.loop-at-test.false)), refl, refl, refl) in (x.0, _, x.1)
