-- `reading::number_text` meets its contract: the kind's test, the number's, then its fields. Assumes nothing.
use mathlib.Core.Path.{sym}
use mir.Facts.{to_z-of_z}
use Rattle.rules.specs.Refusals.{not_text}
use Rattle.kinds.specs.Views.{kind_of, fields_of}
use Rattle.reading.proofs.Laws.{narrowed32, number-lacks, number-out, number-none, number-some}
use Rattle.reading.proofs.number_text.Goals as goal

pub returns-then-not-reads_number_texts : goal.returns-then-not-reads_number_texts
returns-then-not-reads_number_texts c = rw (number-lacks (kind_of c.args.kind) c.args.value (sym c.if-not-reads_number_texts.ensures))

pub returns-then-not-fits32 : goal.returns-then-not-fits32
returns-then-not-fits32 c =
    rw (number-out (kind_of c.args.kind) c.args.value (sym c.if-not-reads_number_texts.ensures) (sym (rw (to_z-of_z c.ranges.value) at c.if-not-fits32.ensures)))

pub returns-in_err-fields : goal.returns-in_err-fields
returns-in_err-fields c =
    let fits = sym (rw (to_z-of_z c.ranges.value) at c.if-not-fits32.ensures) in
    rw (number-none (kind_of c.args.kind) c.args.value (sym c.if-not-reads_number_texts.ensures) fits (sym (rw (to_z-of_z c.ranges.value, narrowed32 c.args.value fits) at (c.in_err-fields.ensures.by_index not_text))), c.from_residual.ensures)

pub returns : goal.returns
returns c =
    let fits = sym (rw (to_z-of_z c.ranges.value) at c.if-not-fits32.ensures) in
    rw (number-some (kind_of c.args.kind) c.args.value (fields_of c.in_ok-fields.fields) (sym c.if-not-reads_number_texts.ensures) fits (sym (rw (to_z-of_z c.ranges.value, narrowed32 c.args.value fits) at (c.in_ok-fields.ensures.by_index not_text)))) (c.settle.ensures not_text)
