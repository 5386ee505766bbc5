-- `pennyquill::versions::pq_book2_append` meets its contract: the kind by its code, the field number, then the record of the date.
-- Assumes nothing.
use Rattle.std.proofs.Common.{sym, ap, ◌∙◌, arith}
use borrow.Author.Tests.{lt-leb}
use Rattle.rules.specs.Book.{append_answer, append_buffer}
use Rattle.requests.specs.Second.{most_field, field_entry_for, version2}
use Rattle.codes.specs.Views.{coded_as}
use Rattle.pennyquill.specs.Boundary.{crossed}
use Rattle.pennyquill.proofs.Laws.{by_code, field-entry-code}
use Rattle.pennyquill.proofs.Sizes.{small-fits}
use Rattle.pennyquill.proofs.BookSizes.{two, two-handed, append-small}
use Rattle.pennyquill.proofs.versions.pq_book2_append.Goals as goal

pub returns-in_default-clause-value : goal.returns-in_default-clause-value
unfolding append_answer field_entry_for
returns-in_default-clause-value c = rw (sym c.kind_of_code.ensures ∙ ap coded_as c.in_default.is) c.not_of_kind.ensures

pub returns-in_default-clause-book_after : goal.returns-in_default-clause-book_after
unfolding append_buffer append_answer field_entry_for
returns-in_default-clause-book_after c = rw (sym c.kind_of_code.ensures ∙ ap coded_as c.in_default.is)

pub returns-in_default-try_from-clause-value : goal.returns-in_default-try_from-clause-value
unfolding append_answer field_entry_for
returns-in_default-try_from-clause-value c =
    rw (by_code c.kind_of_code.ensures c.in-Some.is, lt-leb c.args.field most_field (omega (arith, c.in_default-try_from.ensures))) c.not_of_kind-in_default-try_from.ensures

pub returns-in_default-try_from-clause-book_after : goal.returns-in_default-try_from-clause-book_after
unfolding append_buffer append_answer field_entry_for
returns-in_default-try_from-clause-book_after c =
    rw (by_code c.kind_of_code.ensures c.in-Some.is, lt-leb c.args.field most_field (omega (arith, c.in_default-try_from.ensures)))

pub counted-requires : goal.counted-requires
counted-requires c = small-fits (rw c.append.ensures.result_value (append-small version2 two _ _ (two-handed _ _ _)))

pub returns-clause-value : goal.returns-clause-value
returns-clause-value c =
    rw (field-entry-code _ _ _ (by_code c.kind_of_code.ensures c.in-Some.is), ← c.date_in-date.ensures, ← c.in-Ok.ensures.1)
    (c.counted.ensures ∙ ap crossed c.append.ensures.result_value)

pub returns-clause-book_after : goal.returns-clause-book_after
returns-clause-book_after c =
    rw (field-entry-code _ _ _ (by_code c.kind_of_code.ensures c.in-Some.is), ← c.date_in-date.ensures, ← c.in-Ok.ensures.1) c.append.ensures.b_after
