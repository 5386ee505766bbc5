-- The record of a date of the kind, or refusal 4 before all others.
use Rattle.std.proofs.Common.{◌≡◌, length, refl, sym, ap, ◌∙◌, arith}
use Rattle.rules.specs.Refusals.{Gives}
use Rattle.rules.specs.Book.{append_answer, append_buffer}
use Rattle.requests.specs.Second.{field_entry_bytes}
use Rattle.requests.proofs.OnSecond.FieldEntryLaws.{field-entry-long}
use Rattle.kinds.specs.Views.{kind_of, bits_of}
use Rattle.book_versions.proofs.Versions.{append-two, buffer-two, entry-given, entry-not}
use Rattle.book_versions.proofs.second.append.Goals as goal

pub append_record-requires : goal.append_record-requires
append_record-requires c =
    let a = c.args in
    let long : length c.bytes_of.result ≡ 7 = ap length c.bytes_of.ensures ∙ field-entry-long (kind_of a.kind) a.field (bits_of a.date) in
    (omega arith, omega arith)

pub returns : goal.returns
returns c =
    let a = c.args in
    let s = a.b.now in
    let r = field_entry_bytes (kind_of a.kind) a.field (bits_of a.date) in
    rw (entry-given a.kind a.field a.date (omega arith) (sym c.is_of_kind.ensures ∙ c.if-not-is_of_kind.false), ← append-two s (Gives r), ← buffer-two s (Gives r))
    (rw (c.bytes_of.ensures, field-entry-long (kind_of a.kind) a.field (bits_of a.date)) at c.append_record.ensures)

pub returns-then-not-is_of_kind : goal.returns-then-not-is_of_kind
unfolding append_answer append_buffer
returns-then-not-is_of_kind c =
    let a = c.args in
    rw (entry-not a.kind a.field a.date (omega arith) (sym c.is_of_kind.ensures ∙ c.if-not-is_of_kind.true))
    (record { result_value = refl; b_after = refl })
