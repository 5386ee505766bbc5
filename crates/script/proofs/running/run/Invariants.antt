-- Each row moves the place on; the calls for the rows that are left, after those that were made, are the calls for all.
use Rattle.std.proofs.Common.{ℕ, length, drop, ◌-◌, ◌≤◌}
use Rattle.script.specs.Running.{CallsAt, InTurn}
use Rattle.script.proofs.running.run.Given as goal

abbrev pub invariant-loop-at : goal.invariant-loop-at
invariant-loop-at g l =
    goal.F-IsAlwaysCallable g l.step × (l.at ≤ length l.script)
    × ((n : ℕ) (r : _) (last : _) (w : _) → InTurn (CallsAt (λ f o s r o' f'. goal.F-step g f o s r o' f')) n l.step l.out (drop l.at l.script) r last w
    → (m : ℕ) × InTurn (CallsAt (λ f o s r o' f'. goal.F-step g f o s r o' f')) m l.fn.step l.fn.out l.fn.script r last w)

abbrev pub decreases-loop-at : goal.decreases-loop-at
decreases-loop-at g l = length l.script - l.at
