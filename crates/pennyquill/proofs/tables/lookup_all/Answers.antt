-- `pennyquill::tables::lookup_all` meets its contract: the table, the game kind, then as many answers as were asked for. Assumes nothing.
use Rattle.std.proofs.Common.{◌≡◌, sym, ap, ◌∙◌}
use Rattle.rules.specs.Refusals.{Gives, given}
use Rattle.refusals.specs.Answers.{refusal_as}
use Rattle.refusals.proofs.RefusalLaws.{refused, refusal-then, passed, some-of, none-of}
use Rattle.field_table.specs.Views.{allowed_as, checked_as}
use Rattle.pennyquill.specs.Tables.{asked, lookups}
use Rattle.pennyquill.proofs.TableLaws.{all_asked, no-game, unanswered}
use Rattle.pennyquill.proofs.tables.lookup_all.Goals as goal

pub returns-in_err-check-clause-value : goal.returns-in_err-check-clause-value
unfolding lookups
returns-in_err-check-clause-value c =
    passed (λ n. n) _ _ c.from_residual.ensures ∙ sym (rw (sym c.check.ensures ∙ ap checked_as c.in_err-check.was) (refusal-then _ _))

pub returns-in_err-check-clause-out_after : goal.returns-in_err-check-clause-out_after
unfolding lookups
returns-in_err-check-clause-out_after c =
    let told : lookups c.args.table.now c.args.game_kind c.args.fields.now c.args.numbers.now c.args.out.now ≡ refusal_as c.in_err-check.field-0.0 = rw (sym c.check.ensures ∙ ap checked_as c.in_err-check.was) (refusal-then _ _) in
    sym (unanswered c.args.table.now c.args.game_kind c.args.fields.now c.args.numbers.now c.args.out.now _ (ap given told ∙ refused _ _))

pub returns-in_err-ok_or-clause-value : goal.returns-in_err-ok_or-clause-value
returns-in_err-ok_or-clause-value c =
    let n = none-of (λ n. n) _ _ c.from_residual-in_err-ok_or.result c.ok_or.ensures.value c.in_err-ok_or.was c.from_residual-in_err-ok_or.ensures in
    n.1 ∙ sym (no-game c.args.table.now c.args.game_kind c.args.fields.now c.args.numbers.now c.args.out.now (sym (sym c.check.ensures ∙ ap checked_as c.in_ok-check.was)) (sym (ap allowed_as n.0) ∙ c.game_kind.ensures))

pub returns-in_err-ok_or-clause-out_after : goal.returns-in_err-ok_or-clause-out_after
returns-in_err-ok_or-clause-out_after c =
    let n = none-of (λ n. n) _ _ c.from_residual-in_err-ok_or.result c.ok_or.ensures.value c.in_err-ok_or.was c.from_residual-in_err-ok_or.ensures in
    rw (no-game c.args.table.now c.args.game_kind c.args.fields.now c.args.numbers.now c.args.out.now (sym (sym c.check.ensures ∙ ap checked_as c.in_ok-check.was)) (sym (ap allowed_as n.0) ∙ c.game_kind.ensures))

pub returns-clause-value : goal.returns-clause-value
returns-clause-value c =
    let count : c.least-n.result ≡ asked c.args.fields.now c.args.numbers.now c.args.out.now = c.least-n.ensures ∙ rw (c.least-questions.ensures, c.least.ensures) in
    rw (all_asked c.args.table.now c.args.game_kind c.args.fields.now c.args.numbers.now c.args.out.now (sym (sym c.check.ensures ∙ ap checked_as c.in_ok-check.was)) (sym (ap allowed_as (some-of _ _ c.ok_or.ensures.value c.in_ok-ok_or.was)) ∙ c.game_kind.ensures)) (ap Gives count)

pub returns-clause-out_after : goal.returns-clause-out_after
returns-clause-out_after c =
    let count : c.least-n.result ≡ asked c.args.fields.now c.args.numbers.now c.args.out.now = c.least-n.ensures ∙ rw (c.least-questions.ensures, c.least.ensures) in
    rw (all_asked c.args.table.now c.args.game_kind c.args.fields.now c.args.numbers.now c.args.out.now (sym (sym c.check.ensures ∙ ap checked_as c.in_ok-check.was)) (sym (ap allowed_as (some-of _ _ c.ok_or.ensures.value c.in_ok-ok_or.was)) ∙ c.game_kind.ensures)) (rw count at c.answer_all.ensures)
