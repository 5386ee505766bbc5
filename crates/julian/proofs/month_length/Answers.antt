-- What the code works out of a number is document 01's list, by computation.
use Rattle.std.proofs.Common.{◌≡◌, ◌≢◌, ℕ, ◌≤◌, ◌<◌, ◌+◌, ◌/◌, ◌%◌, zero, suc, sym, ◌∙◌, cond, arith}
use lib.Dec.{eqb}
use lib.ListN.{get_or-eq_default}
use borrow.Author.Tests.{ne_eqb}
use Rattle.rules.specs.Calendar.{month_length, lengths}
use Rattle.rules.proofs.Shared.Table.{tabulated}
use Rattle.julian.proofs.month_length.Goals as goal

-- what the code works out of a number from 1 to 12
worked : ℕ → ℕ
worked m = cond (eqb m 2) 28 (30 + (m + m / 8) % 2)

-- the list of what is worked out, and the list of the lengths: the same twelve numbers
worked-right : (m : ℕ) → m < 12 → worked (suc m) ≡ month_length (suc m)
unfolding worked month_length lengths
worked-right m h = sym (tabulated (λ n. worked (suc n)) 12 m h) ∙ tabulated (λ n. month_length (suc n)) 12 m h

other : (m : ℕ) → 1 ≤ m → m ≤ 12 → m ≢ 2 → 30 + (m + m / 8) % 2 ≡ month_length m
unfolding worked
other zero a b n = absurd (omega arith)
other (suc m) a b n = rw (← worked-right m (omega arith), ne_eqb (suc m) 2 n)

none : (m : ℕ) → 12 < m → 0 ≡ month_length m
unfolding month_length lengths
none zero h = absurd (omega arith)
none (suc m) h = sym (get_or-eq_default lengths 0 {n = m} (omega arith))

pub returns-in-2 : goal.returns-in-2
unfolding month_length lengths
returns-in-2 c = rw c.in-2.is

pub returns-in_default : goal.returns-in_default
returns-in_default c = other c.args.month (omega arith) (omega arith) (λ e. omega arith)

pub returns-in-0 : goal.returns-in-0
unfolding month_length
returns-in-0 c = let z : c.args.month ≡ 0 = omega arith in rw z

pub returns-in-0-2 : goal.returns-in-0-2
returns-in-0-2 c = none c.args.month (omega arith)
