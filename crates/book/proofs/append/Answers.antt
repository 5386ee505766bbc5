-- The record of a date of the kind, or refusal 4 before all others.
use Rattle.std.proofs.Common.{◌≡◌, length, refl, sym, ap, ◌∙◌, arith}
use Rattle.rules.specs.Refusals.{Gives}
use Rattle.rules.specs.Book.{append_answer, append_buffer}
use Rattle.book.specs.Views.{bytes_of}
use Rattle.book.proofs.Laws.{five-long, entry-given, entry-not, append-one, buffer-one}
use Rattle.book.proofs.append.Goals as goal

pub append_record-requires : goal.append_record-requires
append_record-requires c =
    let a = c.args in
    let long : length c.bytes_of.result ≡ 5 = ap length c.bytes_of.ensures ∙ five-long a.kind a.date in
    (omega arith, omega arith)

pub returns : goal.returns
returns c =
    let a = c.args in
    let s = a.b.now in
    let entry = Gives (bytes_of a.kind a.date) in
    rw (entry-given a.kind a.date (sym c.is_of_kind.ensures ∙ c.if-not-is_of_kind.false), ← append-one s entry, ← buffer-one s entry)
    (rw (c.bytes_of.ensures, five-long a.kind a.date) at c.append_record.ensures)

pub returns-then-not-is_of_kind : goal.returns-then-not-is_of_kind
unfolding append_answer append_buffer
returns-then-not-is_of_kind c =
    let a = c.args in
    rw (entry-not a.kind a.date (sym c.is_of_kind.ensures ∙ c.if-not-is_of_kind.true))
    (record { result_value = refl; b_after = refl })
