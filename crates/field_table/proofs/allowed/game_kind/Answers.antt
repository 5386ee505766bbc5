-- A kind of that code, where the test lets it through.
use Rattle.std.proofs.Common.{sym, ap, ◌∙◌}
use Rattle.rules.specs.Numbers.{guesses}
use Rattle.field_table.specs.Views.{allowed_as}
use Rattle.field_table.proofs.Keys.{among, among_none, told-where}
use Rattle.field_table.proofs.allowed.game_kind.Goals as goal

pub returns-in_err-kind : goal.returns-in_err-kind
returns-in_err-kind c = rw c.from_residual.ensures (sym (among_none guesses c.args.code c.in_err-kind.ensures))

pub returns : goal.returns
returns c =
    ap allowed_as c.then_some.ensures ∙ told-where _ _
    ∙ sym (among guesses c.args.code _ c.has_guess.ensures c.in_ok-kind.ensures)
