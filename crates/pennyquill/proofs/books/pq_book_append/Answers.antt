-- `pennyquill::books::pq_book_append` meets its contract: the kind by its code, then the record of the date. Assumes nothing.
use Rattle.std.proofs.Common.{sym, ap, ◌∙◌}
use Rattle.rules.specs.Book.{append_answer, append_buffer, entry_for, version1}
use Rattle.codes.specs.Views.{coded_as}
use Rattle.pennyquill.specs.Boundary.{crossed}
use Rattle.pennyquill.proofs.Laws.{by_code, entry-code}
use Rattle.pennyquill.proofs.Sizes.{small-fits}
use Rattle.pennyquill.proofs.BookSizes.{one, one-handed, append-small}
use Rattle.pennyquill.proofs.books.pq_book_append.Goals as goal

pub returns-in_default-clause-value : goal.returns-in_default-clause-value
unfolding append_answer entry_for
returns-in_default-clause-value c = rw (sym c.kind_of_code.ensures ∙ ap coded_as c.in_default.is) c.not_of_kind.ensures

pub returns-in_default-clause-book_after : goal.returns-in_default-clause-book_after
unfolding append_buffer append_answer entry_for
returns-in_default-clause-book_after c = rw (sym c.kind_of_code.ensures ∙ ap coded_as c.in_default.is)

pub counted-requires : goal.counted-requires
counted-requires c = small-fits (rw c.append.ensures.result_value (append-small version1 one _ _ (one-handed _ _)))

pub returns-clause-value : goal.returns-clause-value
returns-clause-value c =
    rw (entry-code _ _ (by_code c.kind_of_code.ensures c.in-Some.is), ← c.date_in.ensures) (c.counted.ensures ∙ ap crossed c.append.ensures.result_value)

pub returns-clause-book_after : goal.returns-clause-book_after
returns-clause-book_after c =
    rw (entry-code _ _ (by_code c.kind_of_code.ensures c.in-Some.is), ← c.date_in.ensures) c.append.ensures.b_after
