-- Document 02, #111: the hours between two dates of H, and the addition of hours; the same in blocks of six hours for V. Over the
-- hours of a block. Assumes nothing.
use Rattle.std.specs.Prelude.{ℕ, ◌+◌, ◌-◌, ◌/◌, ◌%◌, Bool, false, eqb, ℤ, pos, nat_abs, ◌+ℤ◌, ◌-ℤ◌, ◌*ℤ◌}
use Rattle.std.proofs.Math.IntN.{sub_ℕ}
use Rattle.std.specs.Int.Signed.{quot_z}
use Rattle.rules.specs.Refusals.{Answer, Gives, demand, not_of_kind}
use Rattle.rules.specs.Kinds.{Kind, kR, kD, kH, kU, kE, kV, Fields, least_hour}
use Rattle.rules.specs.Numbers.{on_day, straight}
use Rattle.rules.specs.Days.{date_within}

-- "For H .. hours", "Then the same in blocks of six hours for V": whether a kind counts in blocks of so many hours
abbrev pub counts_in : ℕ → Kind → Bool
counts_in block kR = false
counts_in block kD = false
counts_in block kH = eqb block 1
counts_in block kU = false
counts_in block kE = false
counts_in block kV = eqb block 6

-- "on the number that H writes", which has hour - 1; for V "on its date's number plus its hour". So the hour counts from the first of
-- a day, which is H's 1 and V's 0
unfoldable pub hour_number : Kind → Fields → ℤ
hour_number k f = straight f (f.hour - least_hour k)

-- how many hours a number lies after that of the first hour of year -32768, which is -243,247,680
abbrev pub since_first : ℤ → ℕ
since_first s = nat_abs (s +ℤ pos 243247680)

-- "so the count runs straight through every year, also before 0 and below -5000": the date so many hours after that first hour
unfoldable pub hours_after : Kind → ℕ → Fields
hours_after k n = on_day (sub_ℕ (n / 8760) 32768) (n / 24 % 365) (n % 24 + least_hour k)

-- "5 where the sum of hours leaves 32 bits, 6 where it lies outside -243,247,680 to 330,847,679"
unfoldable pub hour_summed : Kind → ℤ → Answer Fields
hour_summed k s = date_within 243247680 330847679 (λ n. hours_after k (since_first n)) s

-- "the difference in hours", with the block of six hours "counts of blocks"
unfoldable pub count_between : ℕ → Kind → Fields → Fields → Answer ℤ
count_between block k f g =
    demand (counts_in block k) not_of_kind (Gives (quot_z (hour_number k g -ℤ hour_number k f) (pos block)))

-- "addition of hours": the sum is in hours, also where blocks are counted
unfoldable pub add_count : ℕ → Kind → Fields → ℤ → Answer Fields
add_count block k f n = demand (counts_in block k) not_of_kind (hour_summed k (hour_number k f +ℤ pos block *ℤ n))

-- hours, which H counts
abbrev pub hours_between : Kind → Fields → Fields → Answer ℤ
hours_between = count_between 1

abbrev pub add_hours : Kind → Fields → ℤ → Answer Fields
add_hours = add_count 1

-- blocks of six hours, which V counts
abbrev pub blocks_between : Kind → Fields → Fields → Answer ℤ
blocks_between = count_between 6

abbrev pub add_blocks : Kind → Fields → ℤ → Answer Fields
add_blocks = add_count 6
