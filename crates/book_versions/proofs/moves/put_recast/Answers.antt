-- The kind's byte, zeros, the date's four bytes.
use Rattle.std.proofs.Common.{◌≡◌, ℕ, ◌+◌, ◌-◌, take, drop, ap, arith}
use Rattle.book.specs.Views.{date_size}
use Rattle.book_versions.proofs.RecastLaws.{recast-stores}
use Rattle.book_versions.proofs.moves.put_recast.Goals as goal

pub returns : goal.returns
returns c =
    let a = c.args in
    let old = c.requires.least_size_le_size in
    let new = c.requires.least_size_le_new_size in
    let d = a.at + a.size - date_size in
    let n : d + date_size - d ≡ date_size = omega arith in
    recast-stores a.from.now a.at a.size old.0 old.1 a.new_size new.0 a.to.now _ _ _ a.target new.1
    c.zero.ensures (ap (λ (m : ℕ). take m (drop d a.from.now)) n) c.put.ensures
