-- "with the place of the earlier record where it first occurs": the longest step is one of the steps from each record to the next, every
-- step before it is shorter, and none after it is longer. With one record, or where all steps are 0, it is 0 at the first record.
-- Assumes nothing.
use mathlib.Core.Path.{◌≡◌, refl, ap}
use mathlib.Core.List.{List, [], ◌∷◌, ◌++◌}
use Prim.Native.Nat.{ℕ, ◌≤◌, ◌<◌}
use native.Mathlib.Omega.{arith}
use borrow.Author.Tests.{leb-true, leb-false}
use lib.Dec.{leb}
use Rattle.requests.specs.Gaps.{Numbered, Step, step_to, longest}
use Rattle.requests.proofs.OnEntries.KeepLaws.{either}
use Rattle.requests.proofs.OnEntries.EachLaws.{Each}
use Rattle.requests.proofs.OnGaps.StepLaws.{longer-one, longer-two, none-longer, no_step}

-- ---- what it is to be the first of the longest

-- the steps "between one record and the next", in the book's order
abbrev pub each_step : Numbered → List Numbered → List Step
each_step a [] = []
each_step a (b ∷ bs) = step_to a b ∷ each_step b bs

-- one of some steps: "the longest", "where it first occurs"
pub record FirstOf (steps : List Step) (step : Step) : Type 0 where
  pub before : List Step
  pub after : List Step
  pub stands : steps ≡ before ++ step ∷ after
  pub shorter : Each (λ (t : Step). t.long < step.long) before
  pub no_longer : Each (λ (t : Step). t.long ≤ step.long) after

-- the same of some records' steps; "with one, step 0 .., place that record"
abbrev pub FirstLongest : Numbered → List Numbered → Step → Type 0
FirstLongest a [] step = step ≡ no_step a
FirstLongest a (b ∷ bs) step = FirstOf (each_step a (b ∷ bs)) step

-- ---- the longest step is

-- no step is over a number that the longest is not over
none_over : (n : ℕ) (a : Numbered) (bs : List Numbered) → (longest a bs).long ≤ n → Each (λ (t : Step). t.long ≤ n) (each_step a bs)
none_over n a [] h = tt
none_over n a (b ∷ bs) h = let g = none-longer a b bs in (omega arith, none_over n b bs (omega arith))

module _ (a b : Numbered) (bs : List Numbered) where
  -- the first step is as long as any after it
  at_once : (longest b bs).long ≤ (step_to a b).long → FirstLongest a (b ∷ bs) (longest a (b ∷ bs))
  unfolding longest
  at_once h =
      rw (longer-one (step_to a b) (longest b bs) h)
      record { before = []; after = each_step b bs; stands = refl; shorter = tt; no_longer = none_over _ b bs h }

  -- it is shorter than the longest after it
  further-on : (step_to a b).long < (longest b bs).long → FirstOf (each_step b bs) (longest b bs) → FirstLongest a (b ∷ bs) (longest a (b ∷ bs))
  unfolding longest
  further-on h f =
      rw (longer-two (step_to a b) (longest b bs) (omega arith))
      record {
        before = step_to a b ∷ f.before;
        after = f.after;
        stands = ap (λ (l : List Step). step_to a b ∷ l) f.stands;
        shorter = (h, f.shorter);
        no_longer = f.no_longer;
      }

pub longest-first : (a : Numbered) (bs : List Numbered) → FirstLongest a bs (longest a bs)
unfolding longest
longest-first a [] = refl
longest-first a (b ∷ []) = at_once a b [] (omega arith)
longest-first a (b ∷ c ∷ cs) =
    let l = (longest b (c ∷ cs)).long in
    let m = (step_to a b).long in
    either (leb l m) (λ e. at_once a b (c ∷ cs) (leb-true l m e))
    (λ e. further-on a b (c ∷ cs) (let h = leb-false l m e in omega arith) (longest-first b (c ∷ cs)))

-- all steps are 0: it is 0 at the first record
pub all-still : (a : Numbered) (bs : List Numbered) → Each (λ (t : Step). t.long ≡ 0) (each_step a bs) → longest a bs ≡ no_step a
unfolding longest
all-still a [] h = refl
all-still a (b ∷ bs) h = rw (all-still b bs h.1, longer-one (step_to a b) (no_step b) (omega arith), h.0)
