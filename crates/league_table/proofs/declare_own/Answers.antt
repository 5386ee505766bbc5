-- The tests of the call, then the declaration.
use Rattle.std.proofs.Common.{sym, ap, ◌∙◌}
use Rattle.rules.proofs.OnKinds.KindLaws.{left}
use Rattle.refusals.proofs.RefusalLaws.{some-of, none-of}
use Rattle.requests.specs.Leagues.{is_league, is_field}
use Rattle.requests.proofs.OnLeagues.OwnLaws.{call-own}
use Rattle.field_table.specs.Views.{allowed_as}
use Rattle.league_table.proofs.Changes.{declare-no-field, declare-no-kind, declare-so}
use Rattle.league_table.proofs.declare_own.Goals as goal

pub returns-then-not-names_field : goal.returns-then-not-names_field
returns-then-not-names_field c =
    let a = c.args in
    let kept = declare-no-field a.b.now a.n c.requires a.league a.field a.code (sym c.names_field.ensures ∙ c.if-not-names_field.true) in
    record { result_value = kept.0; b_after = kept.1 }

pub returns-in_err-kind : goal.returns-in_err-kind
returns-in_err-kind c =
    let a = c.args in
    let none = none-of (λ n. n) _ _ _ c.ok_or.ensures.value c.in_err-kind.was c.from_residual.ensures in
    let kept = declare-no-kind a.b.now a.n c.requires a.league a.field a.code (sym c.names_field.ensures ∙ c.if-not-names_field.false) (sym (ap allowed_as none.0) ∙ c.declared_kind.ensures) in
    record { result_value = none.1 ∙ kept.0; b_after = kept.1 }

pub put_own-requires : goal.put_own-requires
put_own-requires c =
    let a = c.args in
    let h = sym c.names_field.ensures ∙ c.if-not-names_field.false in
    record { b_value = c.requires; league_value = (left (is_league a.league) (is_field a.field) h, rw c.key_for.ensures (call-own a.league a.field h)) }

pub returns : goal.returns
returns c =
    let a = c.args in
    let some = some-of _ _ c.ok_or.ensures.value c.in_ok-kind.was in
    let done = declare-so a.b.now a.n c.requires a.league a.field a.code (sym c.names_field.ensures ∙ c.if-not-names_field.false) (sym (ap allowed_as some) ∙ c.declared_kind.ensures)
    (rw c.key_for.ensures at c.put_own.ensures.result_value) (rw c.key_for.ensures at c.put_own.ensures.b_after) in
    record { result_value = done.0; b_after = done.1 }
