-- What follows the rest of the word from here is what is to be answered.
use Rattle.std.proofs.Common.{◌≡◌, drop}
use Rattle.rows.specs.Rows.{after_word}
use Rattle.rows.proofs.after_word.Given as goal

abbrev pub invariant-loop-b : goal.invariant-loop-b
invariant-loop-b l = after_word (drop l.b-index l.word) (drop l.place l.s) ≡ after_word l.word (drop l.at l.s)
