-- The first i questions are answered.
use Rattle.std.proofs.Common.{◌≡◌, ◌*◌, ◌++◌, drop}
use Rattle.requests.specs.Fours.{fours}
use Rattle.pennyquill.specs.Tables.{answer_to}
use Rattle.pennyquill.proofs.tables.answer_all.Given as goal

abbrev pub invariant-loop-i : goal.invariant-loop-i
invariant-loop-i l = l.out ≡ fours (answer_to l.table l.game_kind l.fields l.numbers) l.i ++ drop (l.i * 4) l.initial.out
