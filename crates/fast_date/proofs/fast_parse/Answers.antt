-- `fast_date::fast_parse` meets its contract: by the length and the dots. Assumes nothing.
use native.Mathlib.Omega.{arith}
use mathlib.Core.Path.{sym, ap, ◌∙◌}
use Prim.Native.Nat.{ℕ}
use Rattle.util.specs.Word.{bytes_of}
use Rattle.fast_date.specs.Fast.{eight}
use mathlib.Core.Bool.{and-false}
use borrow.Author.Tests.{ne_eqb}
use lib.ListN.{get_or}
use Rattle.fast_date.proofs.FastTexts.{other_length, dots-8, none-8, dots-9a, dots-9b, none-9, dots-10, none-10}
use Rattle.fast_date.proofs.fast_parse.Goals as goal
use Rattle.fast_date.proofs.fast_parse.Goals.{in-46-4, in-46-2, in-46-3, in-46}

pub returns-in_default : goal.returns-in_default
returns-in_default c = sym (other_length _ (omega arith) (omega arith) (omega arith))

pub returns-in_default-2 : goal.returns-in_default-2
returns-in_default-2 c = sym (none-8 _ (omega arith) (rw (ne_eqb (get_or c.args.s.now 6 0) 46 (omega arith), and-false)))

pub returns-in_default-3 : goal.returns-in_default-3
returns-in_default-3 c = sym (none-8 _ (omega arith) (rw (ne_eqb (get_or c.args.s.now 4 0) 46 (omega arith))))

pub returns-in_default-4 : goal.returns-in_default-4
returns-in_default-4 c =
    sym (none-9 _ (omega arith) (rw (ne_eqb (get_or c.args.s.now 7 0) 46 (omega arith), ne_eqb (get_or c.args.s.now 6 0) 46 (omega arith), and-false)))

pub returns-in_default-5 : goal.returns-in_default-5
returns-in_default-5 c = sym (none-9 _ (omega arith) (rw (ne_eqb (get_or c.args.s.now 4 0) 46 (omega arith))))

pub returns-in_default-6 : goal.returns-in_default-6
returns-in_default-6 c = sym (none-10 _ (omega arith) (rw (ne_eqb (get_or c.args.s.now 7 0) 46 (omega arith), and-false)))

pub returns-in_default-7 : goal.returns-in_default-7
returns-in_default-7 c = sym (none-10 _ (omega arith) (rw (ne_eqb (get_or c.args.s.now 4 0) 46 (omega arith))))

pub returns-in_default-8 : goal.returns-in_default-8
returns-in_default-8 c = sym (other_length _ (omega arith) (omega arith) (omega arith))

pub returns : goal.returns
returns c =
    let of-word = λ (x : ℕ). eight (bytes_of 8 x) in
    elim c.if-s-lt9.branch [
      | in-46-4 w ↦ c.fast_digits.ensures ∙ ap of-word w.word-is ∙ ap eight w.from_le_bytes-word.ensures ∙ sym (dots-8 _ (omega arith) (omega arith) (omega arith))
      | in-46-2 w ↦ c.fast_digits.ensures ∙ ap of-word w.word-is ∙ ap eight w.from_le_bytes-word-in-46-2.ensures ∙ sym (dots-9a _ (omega arith) (omega arith) (omega arith))
      | in-46-3 w ↦ c.fast_digits.ensures ∙ ap of-word w.word-is ∙ ap eight w.from_le_bytes-word-in-46-3.ensures ∙ sym (dots-9b _ (omega arith) (omega arith) (omega arith))
      | in-46 w ↦ c.fast_digits.ensures ∙ ap of-word w.word-is ∙ ap eight w.from_le_bytes-word-in-46.ensures ∙ sym (dots-10 _ (omega arith) (omega arith) (omega arith))
    ]
