-- What refuses the frame is refused, then there must be no bad record.
use Rattle.std.proofs.Common.{sym, ◌∙◌}
use Rattle.rules.proofs.OnBook.FrameLaws.{count_fits}
use Rattle.rules.proofs.OnBook.BookLaws.{one-bad, all-good}
use Rattle.frame.specs.Views.{frame_of}
use Rattle.frame.proofs.Counts.{counted_is}
use Rattle.refusals.proofs.RefusalLaws.{passed}
use Rattle.book.specs.Views.{book_of}
use Rattle.book.proofs.Laws.{sensible, frame-refused}
use Rattle.book.proofs.sized.Format.check_of.Goals as goal

pub returns-in_err-n : goal.returns-in_err-n
returns-in_err-n c =
    let f = c.args.self in
    passed (λ n. n) _ _ c.from_residual.ensures
    ∙ sym (frame-refused f.frame.size f.frame.most f.frame.version f.plain f.least f.frame.fits c.args.b.now _ (sym c.in_err-n.ensures))

pub first_bad-bad-requires : goal.first_bad-bad-requires
first_bad-bad-requires c =
    let f = c.args.self in
    let frame = frame_of f.frame.size f.frame.most f.frame.version in
    let sized = sensible f.frame.size f.frame.most f.frame.version f.plain f.least f.frame.fits in
    count_fits frame sized c.args.b.now _ (sym (counted_is frame c.args.b.now) ∙ sym c.in_ok-n.ensures)

pub returns-then-bad-n : goal.returns-then-bad-n
returns-then-bad-n c =
    let f = c.args.self in
    let frame = frame_of f.frame.size f.frame.most f.frame.version in
    let sized = sensible f.frame.size f.frame.most f.frame.version f.plain f.least f.frame.fits in
    sym (one-bad (book_of f.frame.size f.frame.most f.frame.version f.plain) sized c.args.b.now _
    (sym (counted_is frame c.args.b.now) ∙ sym c.in_ok-n.ensures) c.first_bad-bad.ensures c.if-bad-n.true)

pub returns : goal.returns
returns c =
    let f = c.args.self in
    let frame = frame_of f.frame.size f.frame.most f.frame.version in
    let sized = sensible f.frame.size f.frame.most f.frame.version f.plain f.least f.frame.fits in
    sym (all-good (book_of f.frame.size f.frame.most f.frame.version f.plain) sized c.args.b.now _
    (sym (counted_is frame c.args.b.now) ∙ sym c.in_ok-n.ensures) c.first_bad-bad.ensures c.if-bad-n.false)
