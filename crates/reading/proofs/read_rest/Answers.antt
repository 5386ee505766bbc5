-- `reading::read_rest` meets its contract: nothing follows, or the dotted part does. Assumes nothing.
use Rattle.std.proofs.Common.{rules, sym, ◌∙◌, w64, to_z-of_z}
use Rattle.kinds.specs.Views.{kind_of}
use Rattle.reading.proofs.Laws.{ends, goes_on, dotted-none, dotted-some}
use Rattle.reading.proofs.read_rest.Goals as goal

pub returns-then-s-lead : goal.returns-then-s-lead
returns-then-s-lead c =
    (rw (to_z-of_z {w = w64} {z = c.args.lead.value} (search rules)) at c.number_text.ensures) ∙ sym (ends (kind_of c.args.kind) c.args.lead.value c.args.s.now c.args.lead.next c.if-s-lead.true)

pub returns-in_err-parts : goal.returns-in_err-parts
returns-in_err-parts c =
    rw (goes_on (kind_of c.args.kind) c.args.lead.value c.args.s.now c.args.lead.next c.if-s-lead.false, dotted-none (kind_of c.args.kind) c.args.lead.value _ (sym (c.in_err-parts.ensures c.args.lead.value)), c.from_residual.ensures)

pub returns : goal.returns
returns c =
    rw (goes_on (kind_of c.args.kind) c.args.lead.value c.args.s.now c.args.lead.next c.if-s-lead.false, dotted-some (kind_of c.args.kind) c.args.lead.value _ _ (sym (c.in_ok-parts.ensures c.args.lead.value))) (rw (to_z-of_z {w = w64} {z = c.args.lead.value} (search rules)) at c.settle_year.ensures)
