-- What refuses the frame is refused, then the entries must be in order.
use Rattle.std.proofs.Common.{sym, ◌∙◌}
use Rattle.rules.proofs.OnBook.FrameLaws.{count_fits}
use Rattle.refusals.proofs.RefusalLaws.{passed}
use Rattle.requests.specs.FieldTable.{table_frame}
use Rattle.requests.proofs.OnFieldTable.HeldLaws.{sensible-table, in_order_lem, out_of_order}
use Rattle.frame.proofs.Counts.{counted_is}
use Rattle.field_table.specs.Views.{table_of}
use Rattle.field_table.proofs.Calls.{frame-refusing}
use Rattle.field_table.proofs.sized.Format.check_of.Goals as goal

pub returns-in_err-n : goal.returns-in_err-n
returns-in_err-n c =
    let f = c.args.self in
    passed (λ n. n) _ _ c.from_residual.ensures ∙ frame-refusing (table_of f.key_size f.most f.version) c.args.b.now _ c.in_err-n.ensures

pub in_order-requires : goal.in_order-requires
in_order-requires c =
    let f = c.args.self in
    let t = table_of f.key_size f.most f.version in
    record {
      fits = count_fits (table_frame t) (sensible-table t f.fits) c.args.b.now _ (sym (counted_is (table_frame t) c.args.b.now) ∙ sym c.in_ok-n.ensures);
      narrow = f.narrow;
    }

pub returns-then-not-in_order : goal.returns-then-not-in_order
returns-then-not-in_order c =
    let f = c.args.self in
    let t = table_of f.key_size f.most f.version in
    sym (out_of_order t (sensible-table t f.fits) c.args.b.now _ (sym (counted_is (table_frame t) c.args.b.now) ∙ sym c.in_ok-n.ensures)
    (sym c.if-not-in_order.true ∙ c.in_order.ensures))

pub returns : goal.returns
returns c =
    let f = c.args.self in
    let t = table_of f.key_size f.most f.version in
    sym (in_order_lem t (sensible-table t f.fits) c.args.b.now _ (sym (counted_is (table_frame t) c.args.b.now) ∙ sym c.in_ok-n.ensures)
    (sym c.if-not-in_order.false ∙ c.in_order.ensures))
