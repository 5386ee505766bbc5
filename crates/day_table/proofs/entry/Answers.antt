-- The table is, by computation, the list of what the definition gives: each month times 100, plus its day.
use Rattle.std.proofs.Common.{ℕ, ◌+◌, ◌*◌}
use Rattle.rules.specs.Calendar.{month_day, walk, lengths}
use Rattle.rules.proofs.Shared.Table.{tabulated}
use Rattle.day_table.proofs.entry.Goals as goal

pub returns : goal.returns
unfolding month_day walk lengths
returns c =
    rw c.from.ensures (tabulated (λ (d : ℕ). (month_day d).month * 100 + (month_day d).day) 365 c.args.day_of_year c.requires)
