-- Four numbers, by what was found.
use Rattle.std.proofs.Common.{sym, ap, ◌∙◌}
use Rattle.std.proofs.lemmas.List.Edits.{sets}
use Rattle.std.specs.Prelude.{Result}
use Rattle.refusals.specs.declared.Refusal.{Refusal}
use Rattle.book.specs.declared.Record.{Record}
use Rattle.book.specs.Views.{found_as}
use Rattle.book_versions.specs.Walk.{numbers_of}
use Rattle.book_versions.proofs.WalkLaws.{numbers-refused}
use Rattle.book_versions.proofs.any.put_numbers.Goals as goal

pub returns-in-Ok : goal.returns-in-Ok
unfolding numbers_of
returns-in-Ok c =
    (rw (c.kind_code.ensures, c.date_number.ensures) at c.put.ensures)
    ∙ ap (λ (f : Result Record Refusal). sets c.args.out.now c.args.at (numbers_of (found_as f))) (sym c.in-Ok.is)

pub returns-in-Err : goal.returns-in-Err
returns-in-Err c =
    rw (c.in-Err.is, numbers-refused c.in-Err.refusal, ← c.from.ensures) c.put-in-Err.ensures
