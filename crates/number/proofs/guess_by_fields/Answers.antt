-- `number::guess_by_fields` meets its contract: the number's fields, tested, then decoded. Assumes nothing.
use Rattle.std.proofs.Common.{sym, ap, ◌∙◌}
use Rattle.rules.specs.Refusals.{not_number}
use Rattle.kinds.specs.Views.{kind_of, fields_of, made_as}
use Rattle.number.specs.Views.{guessed_as}
use Rattle.number.proofs.Laws.{fields-told, day-read, guess-reads, guess-none, guess-some}
use Rattle.number.proofs.guess_by_fields.Goals as goal

pub returns-in_err-fields : goal.returns-in_err-fields
returns-in_err-fields c =
    let a = c.args in
    ap guessed_as c.from_residual.ensures
    ∙ sym (rw (guess-none (kind_of a.kind) a.s c.requires (fields-told c.ranges.s c.number_fields.ensures.by_index c.in_err-fields.was)))

pub decode-requires-clause-le_month : goal.decode-requires-clause-le_month
decode-requires-clause-le_month c =
    let k = kind_of c.args.kind in
    day-read k not_number c.args.s _ (guess-reads k c.requires) (fields-told c.ranges.s c.number_fields.ensures.by_index c.in_ok-fields.was)

pub returns-in_err-date : goal.returns-in_err-date
returns-in_err-date c =
    let a = c.args in
    rw (guess-some (kind_of a.kind) a.s (fields_of c.in_ok-fields.fields) c.requires (fields-told c.ranges.s c.number_fields.ensures.by_index c.in_ok-fields.was) (sym c.passes_guess.ensures ∙ c.if-passes_guess.true))
    (ap guessed_as c.from_residual-in_err-date.ensures ∙ sym (ap (made_as not_number) c.in_err-date.was) ∙ c.decode.ensures)

pub returns-then-passes_guess : goal.returns-then-passes_guess
returns-then-passes_guess c =
    let a = c.args in
    rw (guess-some (kind_of a.kind) a.s (fields_of c.in_ok-fields.fields) c.requires (fields-told c.ranges.s c.number_fields.ensures.by_index c.in_ok-fields.was) (sym c.passes_guess.ensures ∙ c.if-passes_guess.true))
    (sym (ap (made_as not_number) c.in_ok-date.was) ∙ c.decode.ensures)

pub returns : goal.returns
returns c =
    let a = c.args in
    rw (guess-some (kind_of a.kind) a.s (fields_of c.in_ok-fields.fields) c.requires (fields-told c.ranges.s c.number_fields.ensures.by_index c.in_ok-fields.was) (sym c.passes_guess.ensures ∙ c.if-passes_guess.false))
