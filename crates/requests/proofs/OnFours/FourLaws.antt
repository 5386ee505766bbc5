-- The numbers of many answers: none yet, and one more; and how many there are. Assumes nothing.
use mathlib.Core.Path.{◌≡◌, refl, ap, ◌∙◌}
use mathlib.Core.List.{List, [], ◌∷◌, ◌++◌}
use Prim.Native.Nat.{ℕ, zero, suc, ◌+◌, ◌*◌, ◌≤◌}
use native.Mathlib.Numerals.{add-one}
use native.Mathlib.Omega.{arith}
use borrow.Author.Tests.{leb-true, leb-false}
use lib.Dec.{leb}
use lib.ListN.{length, take, drop, set, length-append, length-drop}
use lib.Seq.{sets, sets-eq, take_at, drop-append-add, drop-drop}
use Rattle.requests.specs.Fours.{fours, least}
use Rattle.requests.proofs.OnEntries.KeepLaws.{either}

-- four stores
pub four-sets : (s : List ℕ) (at a b c d : ℕ) → set (set (set (set s at a) (at + 1) b) (at + 2) c) (at + 3) d ≡ sets s at (a ∷ b ∷ c ∷ d ∷ [])
four-sets s at a b c d =
    let p : at + 1 ≡ suc at = omega arith in
    let q : at + 2 ≡ suc (suc at) = omega arith in
    let r : at + 3 ≡ suc (suc (suc at)) = omega arith in
    rw (p, q, r)

module _ (f : ℕ → List ℕ) (four : (i : ℕ) → length (f i) ≡ 4) where
  fours-long : (n : ℕ) → length (fours f n) ≡ n * 4
  unfolding fours
  fours-long zero = refl
  fours-long (suc n) = rw (length-append, fours-long n, four n) (omega arith)

  -- none yet
  pub fours-none : (s : List ℕ) → s ≡ fours f 0 ++ drop (0 * 4) s
  unfolding fours
  fours-none s = refl

  -- one more
  pub fours-more : (i : ℕ) (s out t l : List ℕ) → out ≡ fours f i ++ drop (i * 4) s → l ≡ f i → i * 4 + 4 ≤ length s →
      t ≡ sets out (i * 4) l → t ≡ fours f (i + 1) ++ drop ((i + 1) * 4) s
  unfolding fours
  fours-more i s out t l e g h p =
      let m = fours-long i in
      let k = four i in
      let rest = drop (i * 4) s in
      let n : length (fours f i ++ rest) ≡ length s = rw (length-append, m) (rw length-drop (omega arith)) in
      let z : i * 4 + length (f i) ≡ length (fours f i) + 4 = omega arith in
      let y : i * 4 + 4 ≡ (i + 1) * 4 = omega arith in
      let after : drop (i * 4 + length (f i)) (fours f i ++ rest) ≡ drop ((i + 1) * 4) s =
      ap (λ (x : ℕ). drop x (fours f i ++ rest)) z ∙ drop-append-add (fours f i) rest 4 ∙ drop-drop 4 (i * 4) s ∙ ap (λ (x : ℕ). drop x s) y in
      p ∙ rw (e, g) (sets-eq (f i) (fours f i ++ rest) (i * 4) (omega arith) ∙ rw (take_at (fours f i) rest (i * 4) m, after, add-one i))

pub least_first : (a b : ℕ) → least a b ≤ a
least_first a b = either (leb a b) (λ e. rw e (omega arith)) (λ e. let l = leb-false a b e in rw e (omega arith))

pub least-second : (a b : ℕ) → least a b ≤ b
least-second a b = either (leb a b) (λ e. let l = leb-true a b e in rw e (omega arith)) (λ e. rw e (omega arith))
