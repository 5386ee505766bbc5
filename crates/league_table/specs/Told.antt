-- What a league is told of a change, from how many entries it had and how many both had. Assumes nothing.
use Rattle.std.specs.Prelude.{ℕ, ◌+◌, ◌-◌, ◌≤◌, ◌<◌}
use Rattle.rules.specs.Refusals.{Answer, Gives, Refused, RefusedAt, ◌then◌}

-- m entries of both in the place of n: the league's own are as many more or fewer
abbrev pub own_after : ℕ → ℕ → Answer ℕ → Answer ℕ
own_after own n x = x then λ m. Gives (own + m - n)

-- the code can count them
abbrev pub Countable : ℕ → ℕ → Answer ℕ → Type 0
Countable own n (Gives m) = (n ≤ own + m) × (own + m < 18446744073709551616)
Countable own n (Refused r) = Unit {0}
Countable own n (RefusedAt r place) = Unit {0}
