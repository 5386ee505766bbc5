-- The sum of all signed steps is the difference from the first to the last; the longest step is as long as any, and a walk over the records
-- that keeps the longest so far finds it. Assumes nothing.
use mathlib.Core.Path.{◌≡◌, refl, sym, ap, ◌∙◌}
use mathlib.Core.Bool.{Bool, true, false, cond}
use mathlib.Core.List.{List, [], ◌∷◌, map}
use Prim.Native.Nat.{ℕ, ◌+◌, ◌≤◌}
use native.Mathlib.Omega.{arith}
use borrow.Author.Tests.{le-leb, lt-leb, leb-true, leb-false}
use lib.Dec.{leb}
use lib.IntN.{ℤ, pos, ◌+ℤ◌, ◌-ℤ◌}
use Rattle.sign.specs.Halves.{up, dn}
use Rattle.sign.proofs.Laws.{same, ints}
use Rattle.rules.specs.Refusals.{Gives}
use Rattle.rules.specs.Kinds.{Kind, Fields}
use Rattle.rules.specs.Days.{day_number, counts_days, difference}
use Rattle.requests.specs.Gaps.{Numbered, Step, step_to, longer, longest, steps_from, steps_sum, last_of}

-- ---- the sum

-- a sum and a difference as linear equations between naturals, which need no case split
sum-even : (a b : ℤ) → up (a +ℤ b) + dn a + dn b ≡ dn (a +ℤ b) + up a + up b
sum-even a b = simp ints (omega arith)

pub gap-even : (a b : ℤ) → up (a -ℤ b) + dn a + up b ≡ dn (a -ℤ b) + up a + dn b
gap-even a b = simp ints (omega arith)

no_step_lem : (a : ℤ) → pos 0 ≡ a -ℤ a
no_step_lem a = let g = gap-even a a in same _ _ (omega arith)

two_steps : (a b c : ℤ) → (b -ℤ a) +ℤ (c -ℤ b) ≡ c -ℤ a
two_steps a b c =
    let f = gap-even b a in let g = gap-even c b in let h = gap-even c a in let i = sum-even (b -ℤ a) (c -ℤ b) in same _ _ (omega arith)

pub steps-sum : (a : ℤ) (bs : List ℤ) → steps_from a bs ≡ last_of a bs -ℤ a
unfolding steps_from last_of
steps-sum a [] = no_step_lem a
steps-sum a (b ∷ bs) = rw (steps-sum b bs) (two_steps a b (last_of b bs))

pub last-map : {A B : Type 0} (h : A → B) (x : A) (xs : List A) → last_of (h x) (map h xs) ≡ h (last_of x xs)
unfolding last_of
last-map h x [] = refl
last-map h x (y ∷ ys) = last-map h y ys

-- "That sum is proved equal to the difference from the first to the last record of the kind"
pub steps-difference : (k : Kind) → counts_days k ≡ true → (f : Fields) (fs : List Fields) → difference k f (last_of f fs) ≡ Gives (steps_sum f fs)
unfolding difference
steps-difference k c f fs = rw (c, steps-sum (day_number f) (map day_number fs), last-map day_number f fs)

-- ---- the longest step

pub longer-one : (s t : Step) → t.long ≤ s.long → longer s t ≡ s
unfolding longer
longer-one s t h = rw (le-leb t.long s.long h)

pub longer-two : (s t : Step) → s.long + 1 ≤ t.long → longer s t ≡ t
unfolding longer
longer-two s t h = rw (lt-leb t.long s.long (omega arith))

longer-twice : (s t u : Step) → longer (longer s t) u ≡ longer s (longer t u)
longer-twice s t u = by (leb t.long s.long) (leb u.long t.long) refl refl
  where
    by : (a b : Bool) → leb t.long s.long ≡ a → leb u.long t.long ≡ b → longer (longer s t) u ≡ longer s (longer t u)
    by true true p q =
        let h = leb-true t.long s.long p in let i = leb-true u.long t.long q in
        rw (longer-one s t h, longer-one t u i, longer-one s t h) (longer-one s u (omega arith))
    by true false p q =
        let h = leb-true t.long s.long p in let i = leb-false u.long t.long q in
        rw (longer-one s t h, longer-two t u (omega arith))
    by false true p q =
        let h = leb-false t.long s.long p in let i = leb-true u.long t.long q in
        rw (longer-two s t (omega arith), longer-one t u i) (sym (longer-two s t (omega arith)))
    by false false p q =
        let h = leb-false t.long s.long p in let i = leb-false u.long t.long q in
        rw (longer-two s t (omega arith), longer-two t u (omega arith)) (sym (longer-two s u (omega arith)))

-- no step is longer
pub none-longer : (a b : Numbered) (bs : List Numbered) →
    ((step_to a b).long ≤ (longest a (b ∷ bs)).long) × ((longest b bs).long ≤ (longest a (b ∷ bs)).long)
unfolding longest longer
none-longer a b bs = by (leb (longest b bs).long (step_to a b).long) refl
  where
    by : (t : Bool) → leb (longest b bs).long (step_to a b).long ≡ t →
        ((step_to a b).long ≤ (cond t (step_to a b) (longest b bs)).long) × ((longest b bs).long ≤ (cond t (step_to a b) (longest b bs)).long)
    by true e = let h = leb-true (longest b bs).long (step_to a b).long e in omega arith
    by false e = let h = leb-false (longest b bs).long (step_to a b).long e in omega arith

-- ---- the same by a walk that keeps the longest so far

unfoldable pub walked : Step → Numbered → List Numbered → Step
walked best a [] = best
walked best a (b ∷ bs) = walked (longer best (step_to a b)) b bs

abbrev pub no_step : Numbered → Step
no_step a = record { long = 0; place = a.place }

walked_on : (best : Step) (a : Numbered) (bs : List Numbered) → walked best a bs ≡ longer best (longest a bs)
unfolding walked longest
walked_on best a [] = sym (longer-one best _ (omega arith))
walked_on best a (b ∷ bs) = walked_on (longer best (step_to a b)) b bs ∙ longer-twice best (step_to a b) (longest b bs)

-- from the first record, with no step at its place
pub walk-law : (a : Numbered) (bs : List Numbered) → walked (no_step a) a bs ≡ longest a bs
unfolding walked longest
walk-law a [] = refl
walk-law a (b ∷ bs) =
    walked_on (no_step a) a (b ∷ bs) ∙ sym (longer-twice (no_step a) (step_to a b) (longest b bs))
    ∙ ap (λ (s : Step). longer s (longest b bs)) (start (step_to a b).long (leb (step_to a b).long 0) refl)
  where
    start : (d : ℕ) (t : Bool) → leb d 0 ≡ t → longer (no_step a) (record { long = d; place = a.place }) ≡ record { long = d; place = a.place }
    start d true e = let h = leb-true d 0 e in let z : d ≡ 0 = omega arith in rw z (longer-one _ _ (omega arith))
    start d false e = let h = leb-false d 0 e in longer-two _ _ (omega arith)
