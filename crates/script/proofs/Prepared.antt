-- What a turn of the loop over entries comes to, and whether entries fit. Assumes nothing.
use mathlib.Core.Path.{◌≡◌, refl, sym, ap, ◌∙◌}
use mathlib.Core.Bool.{true, false}
use mathlib.Core.List.{List, [], ◌∷◌, ◌++◌}
use Prim.Native.Nat.{ℕ, zero, suc, ◌+◌, ◌*◌, ◌/◌, ◌%◌, ◌<◌, ◌≤◌}
use native.Mathlib.Nat.{add-zero}
use native.Mathlib.Numerals.{add-one}
use native.Mathlib.Omega.{arith}
use borrow.Author.Tests.{le-leb, lt-leb}
use lib.ListN.{length, set}
use lib.Seq.{sets}
use Rattle.requests.proofs.OnLaid.StoreLaws.{sets_more}
use Rattle.script.specs.Preparing.{entry_run, entries_fit}

-- ---- entries

run_long : (first n code : ℕ) → length (entry_run first n code) ≡ 3 * n
unfolding entry_run
run_long first zero code = refl
run_long first (suc n) code = rw (run_long (suc first) n code) (omega arith)

run_more : (first n code : ℕ) → entry_run first (suc n) code ≡ entry_run first n code ++ (first + n) / 256 ∷ (first + n) % 256 ∷ code ∷ []
unfolding entry_run
run_more first zero code = rw (add-zero first)
run_more first (suc n) code =
    let e : first + suc n ≡ suc first + n = omega arith in
    rw e (ap (λ (r : List ℕ). first / 256 ∷ first % 256 ∷ code ∷ r) (run_more (suc first) n code))

three : (b : List ℕ) (at x y z : ℕ) → set (set (set b at x) (at + 1) y) (at + 2) z ≡ sets b at (x ∷ y ∷ z ∷ [])
three b at x y z =
    let e₁ : at + 1 ≡ suc at = omega arith in
    let e₂ : at + 2 ≡ suc (suc at) = omega arith in
    rw (e₁, e₂)

pub entries_none : (s : List ℕ) (place first code : ℕ) → s ≡ sets s place (entry_run first 0 code)
unfolding entry_run
entries_none s place first code = refl

pub entries-turn : (s b : List ℕ) (place first code i : ℕ) → b ≡ sets s place (entry_run first i code) →
    set (set (set b (place + 3 * i) ((first + i) / 256)) (place + 3 * i + 1) ((first + i) % 256)) (place + 3 * i + 2) code ≡ sets s place (entry_run first (i + 1) code)
entries-turn s b place first code i e =
    let x = entry_run first i code in
    let y = (first + i) / 256 ∷ (first + i) % 256 ∷ code ∷ [] in
    let l : place + 3 * i ≡ place + length x = rw (run_long first i code) in
    three b (place + 3 * i) ((first + i) / 256) ((first + i) % 256) code
    ∙ ap (λ (m : ℕ). sets b m y) l ∙ ap (λ (r : List ℕ). sets r (place + length x) y) e ∙ sets_more x y s place
    ∙ rw (add-one i) (ap (sets s place) (sym (run_more first i code)))

pub entries_fit_lem : (place first count long : ℕ) → first + count ≤ 65536 → place + 3 * count ≤ long → true ≡ entries_fit place first count long
unfolding entries_fit
entries_fit_lem place first count long h l = rw (le-leb (first + count) 65536 h, le-leb (place + 3 * count) long l)

-- a field past two bytes, or no room
pub entries_over : (place first count long : ℕ) → 65536 < first + count → false ≡ entries_fit place first count long
unfolding entries_fit
entries_over place first count long h = rw (lt-leb (first + count) 65536 h)

pub entries-short : (place first count long : ℕ) → first + count ≤ 65536 → long < place + 3 * count → false ≡ entries_fit place first count long
unfolding entries_fit
entries-short place first count long h l = rw (le-leb (first + count) 65536 h, lt-leb (place + 3 * count) long l)
