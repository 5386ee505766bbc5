-- A byte of the word, and its end.
use Rattle.std.proofs.Common.{List, ℕ, drop, sym, ap, ◌∙◌}
use Rattle.rules.proofs.Shared.Rests.{past}
use Rattle.rows.specs.Rows.{after_word}
use Rattle.rows.proofs.Laws.{word-goes-on}
use Rattle.rows.proofs.after_word.Goals as goal

pub loop-b-preserved : goal.loop-b-preserved
loop-b-preserved c =
    let l = c.loop-b in
    rw c.after-place.ensures
    (sym (word-goes-on c.args.word.now l.b-index (drop l.place c.args.s.now) c.loop-b-test.true) ∙ l.invariant)

pub returns : goal.returns
returns c =
    ap (λ (w : List ℕ). after_word w (drop c.loop-b.place c.args.s.now)) (sym (past c.args.word.now c.loop-b.b-index c.loop-b-test.false))
    ∙ c.loop-b.invariant
