-- One answer more.
use Rattle.std.proofs.Common.{rules, get_or, pos, refl, ◌∙◌, ap, arith, w32, to_z-of_z}
use Rattle.requests.proofs.OnFours.FourLaws.{fours-none, fours-more}
use Rattle.pennyquill.specs.Tables.{lookup_crossed, four, answer_to}
use Rattle.pennyquill.proofs.tables.answer_all.Goals as goal

pub loop-i-init : goal.loop-i-init
loop-i-init c =
    let a = c.args in fours-none (answer_to a.table.now a.game_kind a.fields.now a.numbers.now) (λ i. refl) a.out.now

pub loop-i-preserved : goal.loop-i-preserved
loop-i-preserved c =
    let a = c.args in
    let l = c.loop-i in
    fours-more (answer_to a.table.now a.game_kind a.fields.now a.numbers.now) (λ i. refl) l.i a.out.now _ _ _ l.invariant
    (ap four (c.look_crossed-looked.ensures ∙ ap lookup_crossed (rw (to_z-of_z {w = w32} {z = get_or a.numbers.now l.i (pos 0)} (search rules)) at c.look.ensures))) (omega (arith, c.requires.n_in_bounds)) c.put.ensures
