-- What is told of the six kinds, one after the other. Assumes nothing.
use mathlib.Core.Path.{◌≡◌, sym, ◌∙◌}
use mathlib.Core.List.{List, [], ◌++◌, append_assoc, append-nil}

pub in_order : {A : Type 0} (a b c d e f : List A) → a ++ b ++ c ++ d ++ e ++ f ≡ a ++ (b ++ (c ++ (d ++ (e ++ (f ++ [])))))
in_order a b c d e f =
    rw (append-nil f, append_assoc (a ++ b ++ c ++ d) e f, append_assoc (a ++ b ++ c) d (e ++ f), append_assoc (a ++ b) c (d ++ (e ++ f)), append_assoc a b (c ++ (d ++ (e ++ f))))

-- the same, two by two
pub by-twos : {A : Type 0} (a b c d e f : List A) → a ++ (b ++ (c ++ (d ++ (e ++ (f ++ []))))) ≡ (a ++ b) ++ (c ++ d) ++ (e ++ f)
by-twos a b c d e f = sym (in_order a b c d e f) ∙ rw (append_assoc (a ++ b) c d, append_assoc (a ++ b ++ (c ++ d)) e f)
