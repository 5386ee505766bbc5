-- A month from 1 to 12 has a first day.
use Rattle.std.proofs.Common.{◌≡◌, ◌≤◌, ◌<◌, ◌+◌, ◌-◌, ℕ, Option, Some, None, arith}
use Rattle.rules.specs.Refusals.{Answer, Gives, Refused, not_of_kind}
use Rattle.rules.specs.Calendar.{first_day, day_of_year, month_length}
use Rattle.rules.proofs.OnKinds.KindLaws.{yes-within}
use Rattle.rules.proofs.OnCalendar.CalendarLaws.{day-of-year-small}
use Rattle.julian.specs.First.{first_day_as, first_day_of}
use Rattle.julian.proofs.day_of_year.Goals as goal

first-is : (o : Option ℕ) (m : ℕ) → 1 ≤ m → m ≤ 12 → first_day_as o ≡ first_day_of m → o ≡ Some (first_day m)
unfolding first_day_of
first-is (Some d) m a b e =
    let f : Gives d ≡ Gives (first_day m) = rw (yes-within 1 12 m a b) at e in cc
first-is None m a b e =
    let f : ◌≡◌ {A = Answer ℕ} (Refused not_of_kind) (Gives (first_day m)) = rw (yes-within 1 12 m a b) at e in cc

pub unwrap-first-requires : goal.unwrap-first-requires
unwrap-first-requires c = rw (first-is _ c.args.month c.requires.0 c.requires.1 c.julian_ordinal_day.ensures)

-- the first day that was found, and the sum that it makes
found : (o : Option ℕ) (m d first day : ℕ) → (1 ≤ m) × (m ≤ 12) × (1 ≤ d) × (d ≤ month_length m) → first_day_as o ≡ first_day_of m →
    o ≡ Some first → day ≡ d → (first + day < 366) × (first + day - 1 ≡ day_of_year m d)
unfolding day_of_year
found o m d first day p e f g =
    let h = first-is o m p.0 p.1 e in
    let i : first ≡ first_day m = cc in
    let s = day-of-year-small m d p.1 p.2 p.3 in (omega arith, omega arith)

pub overflow_add-result : goal.overflow_add-result
overflow_add-result c =
    let s = found _ _ _ _ _ c.requires c.julian_ordinal_day.ensures c.unwrap-first.ensures c.from.ensures in omega arith

pub returns : goal.returns
returns c =
    let s = found _ _ _ _ _ c.requires c.julian_ordinal_day.ensures c.unwrap-first.ensures c.from.ensures in
    (s.1, omega arith)
