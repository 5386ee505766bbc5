-- The test of the call, then the removal.
use Rattle.std.proofs.Common.{sym, ◌∙◌}
use Rattle.requests.proofs.OnLeagues.OwnLaws.{call-own}
use Rattle.league_table.proofs.Changes.{remove-no-field, remove-so}
use Rattle.league_table.proofs.remove_own.Goals as goal

pub returns-then-not-names_field : goal.returns-then-not-names_field
returns-then-not-names_field c =
    let a = c.args in
    let kept = remove-no-field a.b.now a.n c.requires a.league a.field (sym c.names_field.ensures ∙ c.if-not-names_field.true) in
    record { result_value = kept.0; b_after = kept.1 }

pub take_own-requires : goal.take_own-requires
take_own-requires c =
    let a = c.args in
    record { b_value = c.requires; key_value = rw c.key_for.ensures (call-own a.league a.field (sym c.names_field.ensures ∙ c.if-not-names_field.false)) }

pub returns : goal.returns
returns c =
    let a = c.args in
    let done = remove-so a.b.now a.n c.requires a.league a.field (sym c.names_field.ensures ∙ c.if-not-names_field.false)
    (rw c.key_for.ensures at c.take_own.ensures.result_value) (rw c.key_for.ensures at c.take_own.ensures.b_after) in
    record { result_value = done.0; b_after = done.1 }
