-- i entries are written.
use Rattle.std.proofs.Common.{◌≡◌}
use Rattle.std.proofs.lemmas.List.Edits.{sets}
use Rattle.script.specs.Preparing.{entry_run}
use Rattle.script.proofs.preparing.entries.Given as goal

abbrev pub invariant-loop-i : goal.invariant-loop-i
invariant-loop-i l = l.buffer ≡ sets l.initial.buffer l.place (entry_run l.first l.i l.code)
