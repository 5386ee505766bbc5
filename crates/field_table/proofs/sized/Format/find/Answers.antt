-- What stands at the place of the key.
use Rattle.std.proofs.Common.{sym, ◌∙◌}
use Rattle.field_table.proofs.Finds.{find_past, find-not, find_at}
use Rattle.field_table.proofs.sized.Format.find.Goals as goal
use Rattle.field_table.proofs.sized.Format.find.Goals.{else-i-n-via-then-i-n+else-key_at-key, else-i-n-via-else-i-n}

pub returns-then-key_at-key : goal.returns-then-key_at-key
returns-then-key_at-key c =
    let a = c.args in
    find_at a.self.key_size a.n a.b.now a.key c.requires.b_value c.place_of-i.ensures c.if-i-n.true (sym c.key_at.ensures.value ∙ c.if-key_at-key.true)

pub returns : goal.returns
returns c =
    let a = c.args in
    elim c.else-i-n.branch [
      | else-i-n-via-then-i-n+else-key_at-key w ↦
          find-not a.self.key_size a.n a.b.now a.key c.requires.b_value c.place_of-i.ensures w.if-i-n.true (λ e. w.if-key_at-key.false (w.key_at.ensures.value ∙ e))
      | else-i-n-via-else-i-n w ↦
          find_past a.self.key_size a.n a.b.now a.key c.requires.b_value c.place_of-i.ensures w.if-i-n.false
    ]
