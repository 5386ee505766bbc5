-- Record i ends where the n records end, or before.
use Rattle.std.proofs.Common.{◌≡◌, sym, ◌∙◌, arith}
use Rattle.rules.specs.Book.{head_size}
use Rattle.rules.proofs.OnBook.PieceLaws.{search-on, search-stops, search-ends}
use Rattle.book.specs.Views.{sound_sized}
use Rattle.book.proofs.sized.Format.first_bad.Goals as goal

pub returns-then-not-sound_at : goal.returns-then-not-sound_at
returns-then-not-sound_at c =
    let f = c.args.self in
    let sound = sym c.sound_at.ensures ∙ c.if-not-sound_at.true in
    sym (search-stops (sound_sized f.frame.size f.plain) f.frame.size head_size _ _ c.loop-i.i c.loop-i-test.true sound) ∙ c.loop-i.invariant

pub loop-i-preserved : goal.loop-i-preserved
loop-i-preserved c =
    let f = c.args.self in
    let sound = sym c.sound_at.ensures ∙ c.if-not-sound_at.false in
    sym (search-on (sound_sized f.frame.size f.plain) f.frame.size head_size _ _ c.loop-i.i c.loop-i-test.true sound) ∙ c.loop-i.invariant

pub returns : goal.returns
returns c =
    let f = c.args.self in
    let e : c.loop-i.i ≡ c.args.n = omega arith in
    sym e ∙ sym (search-ends (sound_sized f.frame.size f.plain) f.frame.size head_size _ _ _ c.loop-i-test.false) ∙ c.loop-i.invariant
