-- Four numbers in the place of four: those of a list stored one after the other.
use Rattle.std.proofs.Common.{List, ℕ, [], ◌∷◌, ◌++◌, ◌+◌, take, drop, ap, sym, ◌∙◌, append_assoc, arith}
use borrow.Rule.Slice.PartMut.{Post-is}
use lib.Seq.{sets-eq}
use Rattle.fours.proofs.put.Goals as goal

pub returns : goal.returns
returns c =
    let a = c.args in
    let s = a.out.now in
    let four : List ℕ = a.first ∷ a.second ∷ a.third ∷ a.fourth ∷ [] in
    rw c.copy_from_slice.ensures.after
    (ap (λ (l : List ℕ). take a.at s ++ (four ++ l)) (Post-is a.at (a.at + 4) s (omega arith))
    ∙ sym (append_assoc (take a.at s) four (drop (a.at + 4) s)) ∙ sym (sets-eq four s a.at c.requires))
