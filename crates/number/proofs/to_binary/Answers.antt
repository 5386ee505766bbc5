-- `number::to_binary` meets its contract: the number of the fields. Assumes nothing.
use Rattle.std.proofs.Common.{rules, sym, ap, ◌∙◌, w16, w32, to_z-of_z}
use Rattle.rules.specs.Refusals.{Gives}
use Rattle.kinds.specs.Views.{kind_of, fields_of, bits_of, opened_as}
use Rattle.number.proofs.Laws.{write-lacks, write-some, calendar-day}
use Rattle.number.proofs.to_binary.Goals as goal

pub day_of_year-day-requires : goal.day_of_year-day-requires
day_of_year-day-requires c =
    calendar-day (kind_of c.args.kind) (bits_of c.args.date) (fields_of c.in_ok-fields.fields) (sym c.writes_numbers.ensures ∙ c.if-writes_numbers.true)
    (sym c.unpack.ensures ∙ ap opened_as c.in_ok-fields.was)

pub returns-then-writes_numbers : goal.returns-then-writes_numbers
returns-then-writes_numbers c =
    rw (write-some (kind_of c.args.kind) (bits_of c.args.date) (fields_of c.in_ok-fields.fields) (sym c.writes_numbers.ensures ∙ c.if-writes_numbers.true) (sym c.unpack.ensures ∙ ap opened_as c.in_ok-fields.was))
    (ap Gives (to_z-of_z {w = w32} (search rules) ∙ (rw (to_z-of_z {w = w16} {z = c.in_ok-fields.fields.year} (search rules), c.day_of_year-day.ensures.0, c.written_hour-hour.ensures) at c.to_binary.ensures)))

pub returns : goal.returns
returns c = sym (write-lacks (kind_of c.args.kind) (bits_of c.args.date) (sym c.writes_numbers.ensures ∙ c.if-writes_numbers.false))
