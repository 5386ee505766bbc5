-- The tests of the call, then by the entry of the league's field.
use Rattle.std.proofs.Common.{sym, ap, ◌∙◌}
use mir.Facts.{to_z-of_z}
use Rattle.rules.specs.Numbers.{guesses}
use Rattle.refusals.proofs.RefusalLaws.{some-of, none-of}
use Rattle.requests.proofs.OnFieldTable.EntryLaws.{kind-allowed}
use Rattle.field_table.specs.Views.{allowed_as, bits_in, in_bits}
use Rattle.league_table.proofs.Calls.{room, ordered, look-no-field, look-no-game, by-entry}
use Rattle.league_table.proofs.look_own.Goals as goal

pub returns-then-not-names_field : goal.returns-then-not-names_field
returns-then-not-names_field c =
    let a = c.args in
    ap in_bits (sym (look-no-field a.b.now a.n c.requires a.league a.field a.game a.number (sym c.names_field.ensures ∙ c.if-not-names_field.true)))

pub returns-in_err-kind : goal.returns-in_err-kind
returns-in_err-kind c =
    let a = c.args in
    let none = none-of bits_in _ _ _ c.ok_or.ensures.value c.in_err-kind.was c.from_residual.ensures in
    none.1
    ∙ ap in_bits (sym (look-no-game a.b.now a.n c.requires a.league a.field a.game a.number (sym c.names_field.ensures ∙ c.if-not-names_field.false) (sym (ap allowed_as none.0) ∙ c.game_kind.ensures)))

pub look-requires : goal.look-requires
look-requires c =
    let a = c.args in
    let some = some-of _ _ c.ok_or.ensures.value c.in_ok-kind.was in
    record {
      room = room a.b.now a.n c.requires;
      b_value = ordered a.b.now a.n c.requires;
      game_value = kind-allowed guesses a.game _ (sym (sym (ap allowed_as some) ∙ c.game_kind.ensures));
    }

pub returns : goal.returns
returns c =
    let a = c.args in
    let some = some-of _ _ c.ok_or.ensures.value c.in_ok-kind.was in
    (rw (to_z-of_z c.ranges.number, c.key_for-key.ensures) at c.look.ensures)
    ∙ ap in_bits (sym (by-entry a.b.now a.n c.requires a.league a.field a.game a.number (sym c.names_field.ensures ∙ c.if-not-names_field.false) (sym (ap allowed_as some) ∙ c.game_kind.ensures)))
