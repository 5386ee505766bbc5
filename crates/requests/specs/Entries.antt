-- Entries that have a key, in a list that ascends by it: which a test of the key keeps, the place of a key, one entry declared and one
-- removed. Over the entries and the key. Assumes nothing.
use Rattle.std.specs.Prelude.{ℕ, Bool, true, false, not, ◌&&◌, List, [], ◌∷◌, ◌++◌, ltb, eqb, length}

-- ---- tests of a key x

abbrev pub below : ℕ → ℕ → Bool
below q x = ltb x q

abbrev pub same : ℕ → ℕ → Bool
same q x = eqb x q

abbrev pub above : ℕ → ℕ → Bool
above q x = ltb q x

abbrev pub other : ℕ → ℕ → Bool
other q x = not (same q x)

-- an entry before the others, or not
abbrev pub kept_if : {A : Type 0} → Bool → A → List A → List A
kept_if true r rs = r ∷ rs
kept_if false r rs = rs

-- whether there is one
abbrev pub some : {A : Type 0} → List A → Bool
some [] = false
some (r ∷ rs) = true

module _ {A : Type 0} (key : A → ℕ) where
  -- "strictly ascending", the first above low
  unfoldable pub ascends : ℕ → List A → Bool
  ascends low [] = true
  ascends low (r ∷ rs) = ltb low (key r) && ascends (key r) rs

  -- the entries whose key passes a test, in their order
  unfoldable pub keep : (ℕ → Bool) → List A → List A
  keep p [] = []
  keep p (r ∷ rs) = kept_if (p (key r)) r (keep p rs)

  -- the number of entries with a smaller key: where the entry with the key q stands, or would stand
  unfoldable pub place : ℕ → List A → ℕ
  place q rs = length (keep (below q) rs)

  -- the entry with the key q, if there is one
  abbrev pub standing : ℕ → List A → List A
  standing q rs = keep (same q) rs

  -- one entry declared: it stands between those with smaller and those with greater keys, in place of one with its key
  unfoldable pub declare : A → List A → List A
  declare r rs = keep (below (key r)) rs ++ r ∷ keep (above (key r)) rs

  -- the entry with the key q removed
  unfoldable pub remove : ℕ → List A → List A
  remove q rs = keep (other q) rs
