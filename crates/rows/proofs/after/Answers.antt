-- Another byte, or none: nothing stands at NOWHERE.
use Rattle.std.proofs.Common.{get_or, ◌∙◌, arith}
use borrow.Author.Tests.{ne_eqb}
use Rattle.rules.proofs.Shared.Rests.{here, past}
use Rattle.rows.specs.Views.{nowhere}
use Rattle.rows.proofs.after.Goals as goal

pub returns-in_default : goal.returns-in_default
returns-in_default c =
    let a = c.args in
    let g = c.in-Some.ensures.lookup.3 in
    rw (past a.s.now nowhere (omega arith), here _ _ g.0, ne_eqb (get_or a.s.now a.at 0) a.b (λ e. c.if-found-b.false (g.1 0 ∙ e)))

pub returns-in_default-2 : goal.returns-in_default-2
returns-in_default-2 c = rw (past c.args.s.now nowhere (omega arith), past _ _ (rw c.in_default.is at c.get.ensures.lookup.3))
