-- The kind of the code, and its full decoder.
use Rattle.std.proofs.Common.{sym, ap, ◌∙◌}
use Rattle.rules.specs.Numbers.{reads_numbers}
use Rattle.refusals.proofs.RefusalLaws.{some-of}
use Rattle.requests.proofs.OnFieldTable.EntryLaws.{kind-allowed}
use Rattle.field_table.specs.Views.{allowed_as}
use Rattle.field_table.proofs.decode.Goals as goal

pub from_binary-requires : goal.from_binary-requires
from_binary-requires c =
    kind-allowed reads_numbers c.args.code _ (sym (sym (ap allowed_as (some-of _ _ c.ok_or.ensures.value c.in_ok-kind.was)) ∙ c.entry_kind.ensures))
