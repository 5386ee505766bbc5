-- The table's removal, and what the league is told.
use Rattle.std.proofs.Common.{ap, ◌∙◌, arith}
use Rattle.league_table.specs.Told.{own_after}
use Rattle.league_table.proofs.Calls.{room, order, few}
use Rattle.league_table.proofs.Changes.{less-countable, take-so}
use Rattle.league_table.proofs.take_own.Goals as goal

pub count-own-requires : goal.count-own-requires
count-own-requires c =
    let a = c.args in
    record { room = room a.b.now a.n c.requires.b_value; b_value = order a.b.now a.n c.requires.b_value }

pub remove-changed-requires : goal.remove-changed-requires
remove-changed-requires c =
    let a = c.args in
    let e = c.requires.b_value in
    record { room = room a.b.now a.n e; b_value = order a.b.now a.n e; key_size_bound = omega (arith, few a.b.now a.n e) }

pub after-requires : goal.after-requires
after-requires c =
    let a = c.args in less-countable a.b.now a.n c.requires.b_value a.league a.key c.requires.key_value c.count-own.ensures c.remove-changed.ensures.result_value

pub returns : goal.returns
returns c =
    let a = c.args in
    let done = take-so a.b.now a.n c.requires.b_value a.league a.key c.requires.key_value c.count-own.ensures
    (c.after.ensures ∙ ap (own_after _ _) c.remove-changed.ensures.result_value) c.remove-changed.ensures.b_after in
    record { result_value = done.0; b_after = done.1 }
