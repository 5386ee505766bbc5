-- What the check refuses is refused here, and else the book was checked.
use Rattle.std.proofs.Common.{sym, ap, ◌∙◌}
use Rattle.rules.specs.Refusals.{given}
use Rattle.refusals.proofs.RefusalLaws.{passed}
use Rattle.book.specs.Views.{record_as}
use Rattle.book.proofs.Laws.{entry-refused}
use Rattle.book.proofs.sized.Format.record_of.Goals as goal

pub entry_of-requires : goal.entry_of-requires
entry_of-requires c =
    ap given (sym c.in_ok-check_of.ensures)

pub returns-in_err-check_of : goal.returns-in_err-check_of
returns-in_err-check_of c =
    let f = c.args.self in
    passed record_as _ _ c.from_residual.ensures
    ∙ sym (entry-refused f.frame.size f.frame.most f.frame.version f.plain f.least f.frame.fits c.args.b.now _ (sym c.in_err-check_of.ensures) c.args.place)
