use Rattle.std.proofs.Common.{◌≡◌, ◌+◌, ◌≤◌, ℕ, ◌<◌, length, get_or}
use Rattle.spans.proofs.find.Given as goal

-- none of the bytes before is the one that is looked for
abbrev pub invariant-loop-i : goal.invariant-loop-i
invariant-loop-i l = (k : ℕ) → k < l.i → get_or l.found-items k 0 ≡ l.byte → ⊥
