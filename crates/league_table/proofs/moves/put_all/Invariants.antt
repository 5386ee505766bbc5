-- i entries are written.
use Rattle.std.proofs.Common.{◌≡◌, map, drop}
use Rattle.std.proofs.lemmas.List.Edits.{sets}
use Rattle.rules.specs.Book.{head_size, pieces}
use Rattle.requests.specs.Laid.{joined}
use Rattle.requests.specs.Leagues.{of_first}
use Rattle.league_table.proofs.moves.put_all.Given as goal

abbrev pub invariant-loop-i : goal.invariant-loop-i
invariant-loop-i l = l.to ≡ sets l.initial.to head_size (joined (map of_first (pieces l.i 3 (drop head_size l.from))))
