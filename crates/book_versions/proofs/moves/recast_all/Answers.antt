-- Record i ends where the n records end, or before, in both books.
use Rattle.std.proofs.Common.{◌+◌, ◌*◌, ◌≤◌, arith}
use Rattle.std.proofs.Math.Nat.{mul-le-mul_right}
use Rattle.book_versions.proofs.RecastLaws.{ones_none, ones-more}
use Rattle.book_versions.proofs.moves.recast_all.Goals as goal

pub loop-i-init : goal.loop-i-init
loop-i-init c =
    let a = c.args in ones_none a.from.now a.size a.new_size c.requires.least_size_le_size.0 c.requires.least_size_le_new_size.0 a.to.now

pub loop-i-preserved : goal.loop-i-preserved
loop-i-preserved c =
    let a = c.args in
    let l = c.loop-i in
    let more : l.i + 1 ≤ a.n = omega arith in
    let ends : (l.i + 1) * a.size ≤ a.n * a.size = mul-le-mul_right _ more in
    ones-more a.from.now a.size a.new_size c.requires.least_size_le_size.0 c.requires.least_size_le_new_size.0 l.i a.to.now _ _ (omega (arith, ends, c.requires.least_size_le_size)) l.invariant c.put_recast.ensures
