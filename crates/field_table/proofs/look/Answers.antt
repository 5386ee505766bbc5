-- The tests of the call, then by the field's entry.
use Rattle.std.proofs.Common.{sym, ap, ◌∙◌}
use mir.Facts.{to_z-of_z}
use Rattle.rules.specs.Numbers.{guesses}
use Rattle.refusals.proofs.RefusalLaws.{some-of, none-of}
use Rattle.requests.proofs.OnFieldTable.EntryLaws.{kind-allowed}
use Rattle.field_table.specs.Views.{allowed_as, in_bits, bits_in}
use Rattle.field_table.proofs.Calls.{room, ordered, checked-count, by-entry, look-no-field, look-no-game}
use Rattle.field_table.proofs.look.Goals as goal

pub returns-then-not-is_field : goal.returns-then-not-is_field
returns-then-not-is_field c =
    let a = c.args in
    ap in_bits (sym (look-no-field a.b.now (sym (checked-count a.b.now c.requires)) a.field a.game a.number (sym c.is_field.ensures ∙ c.if-not-is_field.true)))

pub returns-in_err-kind : goal.returns-in_err-kind
returns-in_err-kind c =
    let a = c.args in
    let none = none-of bits_in _ _ _ c.ok_or.ensures.value c.in_err-kind.was c.from_residual.ensures in
    none.1 ∙ ap in_bits (sym (look-no-game a.b.now (sym (checked-count a.b.now c.requires)) a.field a.game a.number (sym c.is_field.ensures ∙ c.if-not-is_field.false) (sym (ap allowed_as none.0) ∙ c.game_kind.ensures)))

pub look-requires : goal.look-requires
look-requires c =
    let s = c.args.b.now in
    let some = some-of _ _ c.ok_or.ensures.value c.in_ok-kind.was in
    record {
      room = room s (sym c.entries_in.ensures);
      b_value = ordered s (sym c.entries_in.ensures);
      game_value = kind-allowed guesses c.args.game _ (sym (sym (ap allowed_as some) ∙ c.game_kind.ensures));
    }

pub returns : goal.returns
returns c =
    let a = c.args in
    let some = some-of _ _ c.ok_or.ensures.value c.in_ok-kind.was in
    (rw (to_z-of_z c.ranges.number) at c.look.ensures)
    ∙ ap in_bits (sym (by-entry a.b.now (sym c.entries_in.ensures) a.field a.game a.number (sym c.is_field.ensures ∙ c.if-not-is_field.false) (sym (ap allowed_as some) ∙ c.game_kind.ensures)))
