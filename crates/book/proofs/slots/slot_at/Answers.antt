-- The kind of the code, a mark that the book keeps, and then whether the date is one of the kind.
use Rattle.std.proofs.Common.{sym, ap, ◌∙◌, w16}
use Rattle.sign.proofs.Bits.{held}
use Rattle.rules.specs.Book.{year_of_twos}
use Rattle.book.proofs.Laws.{entry-at, no_kind, not-kept, of-kind, not-of-kind}
use Rattle.book.proofs.slots.slot_at.Goals as goal
use Rattle.book.proofs.slots.slot_at.Goals.{else-is_kept-via-then-is_kept+else-is_of_kind, else-is_kept-via-else-is_kept}

pub returns-in_err-kind : goal.returns-in_err-kind
returns-in_err-kind c =
    let a = c.args in
    rw (c.from_residual.ensures, entry-at a.b.now a.at a.format.frame.size c.requires a.format.plain a.format.least)
    (sym (no_kind _ _ _ _ _ _ _ (sym c.in_err-kind.ensures)))

pub returns-then-is_of_kind : goal.returns-then-is_of_kind
returns-then-is_of_kind c =
    let a = c.args in
    let f = a.format in
    let year = held w16 c.year_of_twos-year.type_inv ∙ c.year_of_twos-year.ensures ∙ ap year_of_twos c.from_be_bytes.ensures in
    rw (entry-at a.b.now a.at f.frame.size c.requires f.plain f.least, ← c.field_at-field.ensures)
    (sym (of-kind _ _ _ _ _ _ _ (sym c.in_ok-kind.ensures) year c.from_be_bytes-word.ensures (sym c.if-is_kept.ensures) (sym c.if-is_of_kind.ensures)))

pub returns : goal.returns
returns c =
    let a = c.args in
    let f = a.format in
    let year = held w16 c.year_of_twos-year.type_inv ∙ c.year_of_twos-year.ensures ∙ ap year_of_twos c.from_be_bytes.ensures in
    rw (entry-at a.b.now a.at f.frame.size c.requires f.plain f.least, ← c.field_at-field.ensures)
    (elim c.else-is_kept.branch [
      | else-is_kept-via-then-is_kept+else-is_of_kind w ↦
          sym (not-of-kind _ _ _ _ _ _ _ (sym c.in_ok-kind.ensures) year c.from_be_bytes-word.ensures (sym c.is_kept.ensures ∙ w.if-is_kept.true) (sym w.is_of_kind.ensures ∙ w.if-is_of_kind.false))
      | else-is_kept-via-else-is_kept w ↦
          sym (not-kept _ _ _ _ _ _ _ (sym c.in_ok-kind.ensures) year c.from_be_bytes-word.ensures (sym c.is_kept.ensures ∙ w.if-is_kept.false))
    ])
