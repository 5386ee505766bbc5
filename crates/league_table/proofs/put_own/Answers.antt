-- The league's share, then the table's declaration, and what the league is told.
use Rattle.std.proofs.Common.{sym, ap, ◌∙◌, arith}
use Rattle.rules.proofs.OnKinds.KindLaws.{high}
use Rattle.requests.proofs.OnLeagues.OwnLaws.{own-is-key}
use Rattle.kinds.specs.Views.{kind_of}
use Rattle.league_table.specs.Told.{own_after}
use Rattle.league_table.proofs.Calls.{room, order, few}
use Rattle.league_table.proofs.Changes.{own-countable, put-so, put-not}
use Rattle.league_table.proofs.put_own.Goals as goal

pub count-own-requires : goal.count-own-requires
count-own-requires c =
    let a = c.args in
    record { room = room a.b.now a.n c.requires.b_value; b_value = order a.b.now a.n c.requires.b_value }

pub may_declare-requires : goal.may_declare-requires
may_declare-requires c =
    let a = c.args in
    record { room = room a.b.now a.n c.requires.b_value; b_value = order a.b.now a.n c.requires.b_value }

pub returns-then-not-may_declare : goal.returns-then-not-may_declare
returns-then-not-may_declare c =
    let a = c.args in
    let mine = c.requires.league_value in
    let kept = put-not a.b.now a.n c.requires.b_value a.league mine.0 a.key (kind_of a.kind) mine.1 c.count-own.ensures (sym c.if-not-may_declare.true ∙ c.may_declare.ensures) in
    record { result_value = kept.0; b_after = kept.1 }

pub entry_bytes-requires : goal.entry_bytes-requires
entry_bytes-requires c =
    let a = c.args in omega (arith, high 1 16777215 a.key (own-is-key a.league a.key c.requires.league_value.0 c.requires.league_value.1))

pub declare-changed-requires : goal.declare-changed-requires
declare-changed-requires c =
    let a = c.args in
    let e = c.requires.b_value in
    record { room = room a.b.now a.n e; b_value = order a.b.now a.n e; len = omega (arith, few a.b.now a.n e) }

pub after-requires : goal.after-requires
after-requires c =
    let a = c.args in
    let mine = c.requires.league_value in
    own-countable a.b.now a.n c.requires.b_value a.league mine.0 a.key (kind_of a.kind) mine.1 c.count-own.ensures (rw c.entry_bytes.ensures at c.declare-changed.ensures.result_value)

pub returns : goal.returns
returns c =
    let a = c.args in
    let mine = c.requires.league_value in
    let told = rw c.entry_bytes.ensures at c.declare-changed.ensures.result_value in
    let done = put-so a.b.now a.n c.requires.b_value a.league mine.0 a.key (kind_of a.kind) mine.1 c.count-own.ensures (sym c.if-not-may_declare.false ∙ c.may_declare.ensures)
    (c.after.ensures ∙ ap (own_after _ _) told) (rw c.entry_bytes.ensures at c.declare-changed.ensures.b_after) in
    record { result_value = done.0; b_after = done.1 }
