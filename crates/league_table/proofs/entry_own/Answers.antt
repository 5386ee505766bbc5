-- The test of the league, then the entry so far after the league's first.
use Rattle.std.proofs.Common.{sym, ap, ◌∙◌, arith}
use Rattle.rules.specs.Refusals.{Gives, ◌then◌}
use Rattle.requests.specs.FieldTable.{Declared}
use Rattle.requests.specs.Leagues.{own_declared}
use Rattle.league_table.proofs.Calls.{room, order, entry-no-league, entry_past, inside, it-declares, entry-is}
use Rattle.league_table.proofs.entry_own.Goals as goal

pub returns-then-not-is_league : goal.returns-then-not-is_league
returns-then-not-is_league c =
    let a = c.args in entry-no-league a.b.now a.n c.requires a.league a.place (sym c.is_league.ensures ∙ c.if-not-is_league.true)

pub count-requires : goal.count-requires
count-requires c =
    let a = c.args in
    record { room = room a.b.now a.n c.requires; b_value = order a.b.now a.n c.requires }

pub returns-then-count-place : goal.returns-then-count-place
returns-then-count-place c =
    let a = c.args in
    entry_past a.b.now a.n c.requires a.league a.place (sym c.is_league.ensures ∙ c.if-not-is_league.false) (omega (arith, c.count.ensures, c.if-count-place.true))

pub start-requires : goal.start-requires
start-requires c =
    let a = c.args in
    record { room = room a.b.now a.n c.requires; b_value = order a.b.now a.n c.requires }

pub overflow_add-at : goal.overflow_add-at
overflow_add-at c =
    let a = c.args in
    omega (arith, (room a.b.now a.n c.requires).fits, c.start.ensures, inside a.b.now a.n c.requires a.league a.place (sym c.is_league.ensures ∙ c.if-not-is_league.false) (omega (arith, c.count.ensures, c.if-count-place.false)))

pub overflow_mul-at : goal.overflow_mul-at
overflow_mul-at c =
    let a = c.args in
    omega (arith, (room a.b.now a.n c.requires).fits, c.start.ensures, inside a.b.now a.n c.requires a.league a.place (sym c.is_league.ensures ∙ c.if-not-is_league.false) (omega (arith, c.count.ensures, c.if-count-place.false)))

pub overflow_add-at-2 : goal.overflow_add-at-2
overflow_add-at-2 c =
    let a = c.args in
    omega (arith, (room a.b.now a.n c.requires).fits, c.start.ensures, inside a.b.now a.n c.requires a.league a.place (sym c.is_league.ensures ∙ c.if-not-is_league.false) (omega (arith, c.count.ensures, c.if-count-place.false)))

pub declared_at-requires : goal.declared_at-requires
declared_at-requires c =
    let a = c.args in
    record {
      key_size_in_bounds = omega (arith, (room a.b.now a.n c.requires).fits, c.start.ensures, inside a.b.now a.n c.requires a.league a.place (sym c.is_league.ensures ∙ c.if-not-is_league.false) (omega (arith, c.count.ensures, c.if-count-place.false)));
      b_value = rw c.start.ensures (it-declares a.b.now a.n c.requires a.league a.place (sym c.is_league.ensures ∙ c.if-not-is_league.false) (omega (arith, c.count.ensures, c.if-count-place.false)));
    }

pub returns : goal.returns
returns c =
    let a = c.args in
    c.without_league.ensures ∙ ap (λ x. x then λ (d : Declared). Gives (own_declared d)) (rw c.start.ensures at c.declared_at.ensures)
    ∙ entry-is a.b.now a.n c.requires a.league a.place (sym c.is_league.ensures ∙ c.if-not-is_league.false) (omega (arith, c.count.ensures, c.if-count-place.false))
