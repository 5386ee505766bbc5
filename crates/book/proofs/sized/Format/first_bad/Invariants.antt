-- What is left to search has the answer.
use Rattle.std.proofs.Common.{◌≡◌, drop}
use Rattle.rules.specs.Book.{head_size, pieces, first_bad}
use Rattle.rules.proofs.OnBook.PieceLaws.{left_from}
use Rattle.book.specs.Views.{sound_sized}
use Rattle.book.proofs.sized.Format.first_bad.Given as goal

abbrev pub invariant-loop-i : goal.invariant-loop-i
invariant-loop-i l =
    left_from (sound_sized l.self.frame.size l.self.plain) l.self.frame.size head_size l.b l.n l.i
    ≡ first_bad (sound_sized l.self.frame.size l.self.plain) (pieces l.n l.self.frame.size (drop head_size l.b))
