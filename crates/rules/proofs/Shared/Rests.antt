-- The rest of a text from a place: a byte and the rest after it, or nothing; the part up to the end. Assumes nothing.
use mathlib.Core.Path.{◌≡◌}
use mathlib.Core.List.{List, [], ◌∷◌}
use Prim.Native.Nat.{ℕ, ◌+◌, ◌≤◌, ◌<◌}
use native.Mathlib.Nat.{le_refl}
use native.Mathlib.Numerals.{add-one}
use lib.ListN.{length, get_or, drop, drop_of_length-le}
use lib.Seq.{drop-cons, take_all}
use Rattle.spans.specs.Bytes.{slice}

pub here : (s : List ℕ) (i : ℕ) → i < length s → drop i s ≡ get_or s i 0 ∷ drop (i + 1) s
here s i h = rw (add-one, drop-cons s i 0)

pub past : (s : List ℕ) (i : ℕ) → length s ≤ i → drop i s ≡ []
past s i h = drop_of_length-le s h

pub to_end : (s : List ℕ) (i : ℕ) → slice i (length s) s ≡ drop i s
unfolding slice
to_end s i = rw (take_all (length s) s (le_refl (length s)))
