-- i records are written.
use Rattle.std.proofs.Common.{◌≡◌, drop}
use Rattle.std.proofs.lemmas.List.Edits.{sets}
use Rattle.rules.specs.Book.{head_size, pieces}
use Rattle.requests.specs.Laid.{joined}
use Rattle.book_versions.specs.Recast.{recast_all}
use Rattle.book_versions.proofs.moves.recast_all.Given as goal

abbrev pub invariant-loop-i : goal.invariant-loop-i
invariant-loop-i l =
    l.to ≡ sets l.initial.to head_size (joined (recast_all l.size l.new_size (pieces l.i l.size (drop head_size l.from))))
