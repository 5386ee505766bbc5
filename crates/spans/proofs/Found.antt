-- Where a byte stands, by what was seen of the bytes before it. Assumes nothing.
use Rattle.std.proofs.Common.{◌≡◌, ℕ, zero, suc, ◌+◌, ◌-◌, ◌≤◌, ◌<◌, Bool, true, false, List, [], ◌∷◌, length, get_or, take, drop, refl, sym, ap, ◌∙◌, arith}
use Rattle.std.specs.Prelude.{eqb}
use borrow.Author.Tests.{eq-eqb, ne_eqb}
use Rattle.spans.specs.Bytes.{slice, index_after, index_of}
use Rattle.std.proofs.lemmas.List.{drop-take}

-- none of the bytes before place i is b, and the byte at i is
pub index-found : (b : ℕ) (s : List ℕ) (i : ℕ) → i < length s → ((k : ℕ) → k < i → get_or s k 0 ≡ b → ⊥) → get_or s i 0 ≡ b → index_of b s ≡ i
unfolding index_of index_after
index-found b [] i h none is = absurd (omega arith)
index-found b (a ∷ s) zero h none is = rw (eq-eqb a b is)
index-found b (a ∷ s) (suc i) h none is =
    rw (ne_eqb a b (none 0 (omega arith)), index-found b s i (omega arith) (λ k l. none (suc k) (omega arith)) is)

-- no byte is b
pub index-none : (b : ℕ) (s : List ℕ) → ((k : ℕ) → k < length s → get_or s k 0 ≡ b → ⊥) → index_of b s ≡ length s
unfolding index_of index_after
index-none b [] none = refl
index-none b (a ∷ s) none = rw (ne_eqb a b (none 0 (omega arith)), index-none b s (λ k l. none (suc k) (omega arith)))

-- a part by its length
pub slice-taken : (i j : ℕ) (s : List ℕ) → i ≤ j → slice i j s ≡ take (j - i) (drop i s)
unfolding slice
slice-taken i j s h = let e : j ≡ i + (j - i) = omega arith in rw (e, drop-take i (j - i) s) (ap (λ n. take n (drop i s)) (omega arith))
