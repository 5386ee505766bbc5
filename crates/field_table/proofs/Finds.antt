-- What the search answers, by what stands at the place of a key, and what an answer tells. Over the bytes of a key. Assumes nothing.
use mathlib.Core.Path.{◌≡◌, refl, sym, ap, ◌∙◌}
use mathlib.Core.Bool.{true}
use mathlib.Core.List.{List, [], ◌∷◌}
use Prim.Native.Nat.{ℕ, ◌+◌, ◌*◌, ◌≤◌, ◌<◌}
use native.Mathlib.Nat.{mul-le-mul_right, add-zero}
use native.Mathlib.Omega.{arith}
use lib.ListN.{length, get_or, take, drop}
use lib.Seq.{get_or-drop}
use Rattle.std.specs.Prelude.{Ok, Err}
use Rattle.rules.specs.Book.{head_size}
use Rattle.rules.proofs.OnBook.PieceLaws.{piece-count}
use Rattle.requests.specs.Entries.{above, ascends, keep, place, standing}
use Rattle.requests.specs.FieldTable.{key_in}
use Rattle.requests.proofs.OnEntries.OrderLaws.{stands, absent, place-within, place_inside, once, drop-place}
use Rattle.requests.proofs.OnLaid.CutLaws.{piece-from}
use Rattle.field_table.specs.Search.{Room, entries_in, found_in, find_of}
use Rattle.field_table.proofs.Keys.{inside}

module _ (key_size n : ℕ) (s : List ℕ) (q : ℕ) (a : ascends (key_in key_size) 0 (entries_in key_size n s) ≡ true) where
  abbrev rs : List (List ℕ)
  rs = entries_in key_size n s

  abbrev k : ℕ
  k = key_size + 1

  module _ {i : ℕ} (e : i ≡ place (key_in key_size) q rs) where
    found_none : standing (key_in key_size) q rs ≡ [] → Err i ≡ find_of key_size q rs
    unfolding find_of
    found_none z = rw (z, e)

    -- the key at i, as the laws of the order say it
    key_here : i < n → key_in key_size (get_or rs (place (key_in key_size) q rs) []) ≡ key_in key_size (take k (drop (head_size + i * k) s))
    key_here l = rw (← e) (ap (key_in key_size) (piece-from head_size k n s i [] l))

    pub find_past : n ≤ i → Err i ≡ find_of key_size q rs
    find_past l = found_none (absent (key_in key_size) q 0 rs a [] (λ g f. omega (arith, piece-count n k (drop head_size s))))

    pub find-not : i < n → (key_in key_size (take k (drop (head_size + i * k) s)) ≡ q → ⊥) → Err i ≡ find_of key_size q rs
    find-not l h = found_none (absent (key_in key_size) q 0 rs a [] (λ g f. h (sym (key_here l) ∙ f)))

    pub find_at : i < n → key_in key_size (take k (drop (head_size + i * k) s)) ≡ q → Ok i ≡ find_of key_size q rs
    unfolding find_of
    find_at l h =
        rw (stands (key_in key_size) q 0 rs a [] (omega (arith, piece-count n k (drop head_size s))) (key_here l ∙ h), e)

-- ---- what an answer tells

pub record Stands (key_size n q i : ℕ) (rs : List (List ℕ)) : Type 0 where
  pub here : i ≡ place (key_in key_size) q rs
  pub within : i < n
  pub entry : List ℕ
  pub only : standing (key_in key_size) q rs ≡ entry ∷ []

pub record Missing (key_size n q i : ℕ) (rs : List (List ℕ)) : Type 0 where
  pub here : i ≡ place (key_in key_size) q rs
  pub within : i ≤ n
  pub none : standing (key_in key_size) q rs ≡ []

module _ (key_size n : ℕ) (s : List ℕ) (q i : ℕ) (a : ascends (key_in key_size) 0 (entries_in key_size n s) ≡ true) where
  abbrev es : List (List ℕ)
  es = entries_in key_size n s

  abbrev size : ℕ
  size = key_size + 1

  pub at-tells : Ok i ≡ find_of key_size q es → Stands key_size n q i es
  unfolding find_of
  at-tells e = inner (standing (key_in key_size) q es) refl e
    where
      inner : (xs : List (List ℕ)) → standing (key_in key_size) q es ≡ xs → Ok i ≡ found_in (place (key_in key_size) q es) xs → Stands key_size n q i es
      inner [] p f = let z : ◌≡◌ {A = ℕ} 0 1 = cc in absurd (omega arith)
      inner (x ∷ ys) p f =
          let h : i ≡ place (key_in key_size) q es = cc in
          let o = once (key_in key_size) q 0 es a x ys p in
          record { here = h; within = omega (arith, place_inside (key_in key_size) q 0 es a x o, piece-count n size (drop head_size s)); entry = x; only = o }

  pub absent-tells : Err i ≡ find_of key_size q es → Missing key_size n q i es
  unfolding find_of
  absent-tells e = inner (standing (key_in key_size) q es) refl e
    where
      inner : (xs : List (List ℕ)) → standing (key_in key_size) q es ≡ xs → Err i ≡ found_in (place (key_in key_size) q es) xs → Missing key_size n q i es
      inner [] p f =
          let h : i ≡ place (key_in key_size) q es = cc in
          record { here = h; within = omega (arith, place-within (key_in key_size) q es, piece-count n size (drop head_size s)); none = p }
      inner (x ∷ ys) p f = let z : ◌≡◌ {A = ℕ} 0 1 = cc in absurd (omega arith)

  -- the one that has the key is the piece at the place
  pub at_piece : Ok i ≡ find_of key_size q es → standing (key_in key_size) q es ≡ take size (drop (head_size + i * size) s) ∷ []
  at_piece e =
      let w = at-tells e in
      let rest : drop (place (key_in key_size) q es) es ≡ w.entry ∷ keep (key_in key_size) (above q) es = drop-place (key_in key_size) q 0 es a ∙ rw w.only in
      let first : get_or es i [] ≡ w.entry =
      ap (λ (x : ℕ). get_or es x []) (w.here ∙ sym (add-zero (place (key_in key_size) q es))) ∙ sym (get_or-drop (place (key_in key_size) q es) es 0 [])
      ∙ ap (λ (x : List (List ℕ)). get_or x 0 []) rest in
      w.only ∙ ap (λ (x : List ℕ). x ∷ []) (sym first ∙ piece-from head_size size n s i [] w.within)

  -- the entry that stands lies within the buffer, and so does the place of one that is missing
  module _ (r : Room key_size n (length s)) where
    pub at-inside : Ok i ≡ find_of key_size q es → head_size + i * size + size ≤ length s
    at-inside e = inside r i (at-tells e).within

    pub absent-inside : Err i ≡ find_of key_size q es → i * size ≤ n * size
    absent-inside e = mul-le-mul_right size (absent-tells e).within
