-- A turn over one entry.
use Rattle.std.proofs.Common.{◌+◌, ◌*◌, sym, ap, ◌∙◌, arith}
use Rattle.rules.specs.Refusals.{given}
use Rattle.rules.specs.Book.{head_size}
use Rattle.requests.specs.FieldTable.{declared_kind}
use Rattle.field_table.proofs.Keys.{given-some}
use Rattle.field_table.proofs.Orders.{code_here, order-on, order_below, order-none, order-ends}
use Rattle.field_table.proofs.sized.Format.in_order.Goals as goal
use Rattle.field_table.proofs.sized.Format.in_order.Goals.{then-key-last-via-then-key-last, then-key-last-via-else-key-last+then-is_none}

pub returns-then-key-last : goal.returns-then-key-last
returns-then-key-last c =
    let a = c.args in
    let l = c.loop-i in
    let k = a.self.key_size in
    elim c.then-key-last.branch [
      | then-key-last-via-then-key-last w ↦
          sym (order_below k a.n a.b.now l.i l.last c.loop-i-test.true (omega (arith, c.key_at-key.ensures.value, w.if-key-last.true))) ∙ l.invariant
      | then-key-last-via-else-key-last+then-is_none w ↦
          let e = ap (λ x. given (declared_kind x)) (code_here a.b.now (head_size + l.i * (k + 1)) k) ∙ sym (ap given w.entry_kind.ensures) ∙ given-some _ ∙ w.if-is_none.ensures in
          sym (order-none k a.n a.b.now l.i l.last c.loop-i-test.true e) ∙ l.invariant
    ]

pub loop-i-preserved : goal.loop-i-preserved
loop-i-preserved c =
    let a = c.args in
    let l = c.loop-i in
    let k = a.self.key_size in
    let e = ap (λ x. given (declared_kind x)) (code_here a.b.now (head_size + l.i * (k + 1)) k) ∙ sym (ap given c.entry_kind.ensures) ∙ given-some _ ∙ c.if-is_none.ensures in
    let key = c.key_at-key.ensures in
    rw key.value (sym (order-on k a.n a.b.now l.i l.last c.loop-i-test.true (omega (arith, key.value, c.if-key-last.false)) (rw (← key.value) key.upper_bound) e) ∙ l.invariant)

pub returns : goal.returns
returns c =
    let a = c.args in
    let l = c.loop-i in
    sym (order-ends a.self.key_size a.n a.b.now l.i l.last c.loop-i-test.false) ∙ l.invariant
