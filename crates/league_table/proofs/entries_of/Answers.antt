-- The check of version 2, then of the two leagues.
use Rattle.std.proofs.Common.{sym, ◌∙◌, arith}
use Rattle.refusals.proofs.RefusalLaws.{passed}
use Rattle.requests.specs.Leagues.{table2}
use Rattle.requests.proofs.OnFieldTable.HeldLaws.{check-fits, check-holds}
use Rattle.requests.proofs.OnLeagues.SharedLaws.{sensible2, counts, counts-not}
use Rattle.league_table.proofs.Calls.{shares-refusing}
use Rattle.league_table.proofs.entries_of.Goals as goal

pub returns-in_err-n : goal.returns-in_err-n
returns-in_err-n c = passed (λ n. n) _ _ c.from_residual.ensures ∙ shares-refusing c.args.b.now _ c.in_err-n.ensures

pub shared-requires : goal.shared-requires
shared-requires c =
    let s = c.args.b.now in
    let e = sym c.in_ok-n.ensures in
    record {
      room = record { fits = check-fits table2 sensible2 s _ e; narrow = omega arith };
      b_value = (check-holds table2 sensible2 s _ e).order;
    }

pub returns-then-not-shared : goal.returns-then-not-shared
returns-then-not-shared c = sym (counts-not c.args.b.now _ (sym c.in_ok-n.ensures) (sym c.if-not-shared.true ∙ c.shared.ensures))

pub returns : goal.returns
returns c = sym (counts c.args.b.now _ (sym c.in_ok-n.ensures) (sym c.if-not-shared.false ∙ c.shared.ensures))
