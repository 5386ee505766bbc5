-- What the check refuses is refused, then there must be room, and then the record must be one of the book's.
use Rattle.std.proofs.Common.{length, refl, sym, ap, ◌∙◌, arith}
use Rattle.std.proofs.Math.Seq.{take-length}
use Rattle.rules.proofs.OnBook.AppendAnswers.{append-full, append-short, append-untaken, append-writes}
use Rattle.refusals.proofs.RefusalLaws.{passed}
use Rattle.book.specs.Views.{sound_sized, book_of}
use Rattle.book.proofs.Laws.{count-tells, append-refused}
use Rattle.book.proofs.sized.Format.append_record.Goals as goal

pub returns-in_err-n : goal.returns-in_err-n
returns-in_err-n c =
    let f = c.args.self in
    let p = c.requires in
    let kept = append-refused (length c.args.piece.now) f.frame.most f.frame.version f.plain p.0 p.1 c.args.b.now _ (sym c.in_err-n.ensures) c.args.piece.now in
    record { result_value = passed (λ n. n) _ _ c.from_residual.ensures ∙ kept.0; b_after = kept.1 }

pub returns-then-self-n : goal.returns-then-self-n
returns-then-self-n c =
    let f = c.args.self in
    let kept = append-full (book_of (length c.args.piece.now) f.frame.most f.frame.version f.plain) c.args.piece.now c.args.b.now _ (sym c.in_ok-n.ensures) c.if-self-n.true in
    record { result_value = kept.0; b_after = kept.1 }

pub returns-then-b-at : goal.returns-then-b-at
returns-then-b-at c =
    let f = c.args.self in
    let p = c.requires in
    let told = count-tells (length c.args.piece.now) f.frame.most f.frame.version f.plain p.0 p.1 c.args.b.now _ (sym c.in_ok-n.ensures) in
    let kept = append-short (book_of (length c.args.piece.now) f.frame.most f.frame.version f.plain) c.args.piece.now c.args.b.now _ (sym c.in_ok-n.ensures) c.if-self-n.false (omega arith) in
    record { result_value = kept.0; b_after = kept.1 }

pub returns-then-not-sound_at : goal.returns-then-not-sound_at
returns-then-not-sound_at c =
    let f = c.args.self in
    let p = c.requires in
    let piece = c.args.piece.now in
    let told = count-tells (length piece) f.frame.most f.frame.version f.plain p.0 p.1 c.args.b.now _ (sym c.in_ok-n.ensures) in
    let sound = sym (c.sound_at.ensures ∙ ap (sound_sized (length piece) f.plain) (take-length piece)) ∙ c.if-not-sound_at.true in
    let kept = append-untaken (book_of (length piece) f.frame.most f.frame.version f.plain) piece c.args.b.now _ (sym c.in_ok-n.ensures) c.if-self-n.false (omega arith) sound in
    record { result_value = kept.0; b_after = kept.1 }

pub returns : goal.returns
returns c =
    let f = c.args.self in
    let p = c.requires in
    let piece = c.args.piece.now in
    let told = count-tells (length piece) f.frame.most f.frame.version f.plain p.0 p.1 c.args.b.now _ (sym c.in_ok-n.ensures) in
    let sound = sym (c.sound_at.ensures ∙ ap (sound_sized (length piece) f.plain) (take-length piece)) ∙ c.if-not-sound_at.false in
    let kept = append-writes (book_of (length piece) f.frame.most f.frame.version f.plain) piece c.args.b.now _ (sym c.in_ok-n.ensures) c.if-self-n.false (omega arith)
    sound refl (omega arith) (omega arith) c.put.ensures c.put_length.ensures in
    record { result_value = kept.0; b_after = kept.1 }
