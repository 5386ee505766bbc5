-- The test of the league, then its count.
use Rattle.std.proofs.Common.{sym, ◌∙◌}
use Rattle.league_table.proofs.Calls.{room, order, no-league, counts-own}
use Rattle.league_table.proofs.count_own.Goals as goal

pub returns-then-not-is_league : goal.returns-then-not-is_league
returns-then-not-is_league c =
    let a = c.args in no-league a.b.now a.n c.requires a.league (sym c.is_league.ensures ∙ c.if-not-is_league.true)

pub count-requires : goal.count-requires
count-requires c =
    let a = c.args in
    record { room = room a.b.now a.n c.requires; b_value = order a.b.now a.n c.requires }

pub returns : goal.returns
returns c =
    let a = c.args in counts-own a.b.now a.n c.requires a.league (sym c.is_league.ensures ∙ c.if-not-is_league.false) c.count.ensures
