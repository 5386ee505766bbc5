-- The walk: each record is four numbers; what is answered, by the check; and in a book that was checked every place before the last has a
-- record. Assumes nothing.
use mathlib.Core.Path.{◌≡◌, refl, ap, ◌∙◌}
use mathlib.Core.Bool.{true, false}
use mathlib.Core.List.{List, [], ◌∷◌}
use Prim.Native.Nat.{ℕ, ◌+◌, ◌-◌, ◌/◌, ◌<◌, min}
use Rattle.std.proofs.Common.{arith}
use Rattle.std.proofs.lemmas.Bool.Decides.{nat_tests}
use lib.ListN.{length}
use Rattle.rules.specs.Refusals.{Answer, Gives, Refused, RefusedAt, given}
use Rattle.rules.specs.Book.{Format, check, entry_at}
use Rattle.rules.proofs.OnBook.FrameLaws.{Sensible}
use Rattle.rules.proofs.OnBook.BookLaws.{entry-by, counted, record-here, sound-here}
use Rattle.refusals.specs.declared.Refusal.{Refusal}
use Rattle.refusals.specs.declared.Refusal.TheVariants as R
use Rattle.refusals.specs.Numbers.{number_of}
use Rattle.refusals.specs.Answers.{refusal_as}
use Rattle.refusals.proofs.RefusalLaws.{refused}
use Rattle.requests.specs.Second.{FieldEntry}
use Rattle.requests.specs.Both.{both}
use Rattle.requests.specs.Fours.{least}
use Rattle.book_versions.specs.Walk.{numbers_of, numbers_from, walked, walked_over}

numbers-four : (x : Answer FieldEntry) → length (numbers_of x) ≡ 4
unfolding numbers_of
numbers-four (Gives e) = refl
numbers-four (Refused n) = refl
numbers-four (RefusedAt n place) = refl

-- those of a refusal: its number
pub numbers-refused : (e : Refusal) → numbers_of (refusal_as e) ≡ number_of e ∷ 0 ∷ 0 ∷ 0 ∷ []
unfolding numbers_of
numbers-refused R.TooLong = refl
numbers-refused R.NotText = refl
numbers-refused R.NotNumber = refl
numbers-refused R.NotOfKind = refl
numbers-refused R.SumOverflows = refl
numbers-refused R.OutOfRange = refl
numbers-refused R.BufferShort = refl
numbers-refused R.TooManyBytes = refl
numbers-refused R.BadLength = refl
numbers-refused R.BadVersion = refl
numbers-refused (R.BadRecord place) = refl
numbers-refused R.NoRoom = refl
numbers-refused R.NoRecord = refl
numbers-refused R.BadEntry = refl
numbers-refused R.TableFull = refl
numbers-refused R.NotThere = refl
numbers-refused R.GuessedDate = refl
numbers-refused (R.FieldOrMark place) = refl

pub four-long : (s : List ℕ) (place i : ℕ) → length (numbers_from s place i) ≡ 4
four-long s place i = numbers-four (entry_at (both s) s (place + i))

-- the smaller of two numbers
pub least-min : (a b : ℕ) → min a b ≡ least a b
least-min a b = grind (arith, nat_tests)

-- what the walk answers and leaves, by the check
module _ (s : List ℕ) (place : ℕ) (out : List ℕ) where
  pub walk-gives : {n : ℕ} → Gives n ≡ check (both s) s → walked s place (length out) ≡ Gives (least (n - place) (length out / 4))
  unfolding walked
  walk-gives e = rw (← e)

  pub walk_refused : {n : ℕ} → Refused n ≡ check (both s) s → (Refused n ≡ walked s place (length out)) × (out ≡ walked_over (walked s place (length out)) s place out)
  unfolding walked walked_over
  walk_refused e = rw (← e) (refl, refl)

  pub walk-bad : {n bad : ℕ} → RefusedAt n bad ≡ check (both s) s → (RefusedAt n bad ≡ walked s place (length out)) × (out ≡ walked_over (walked s place (length out)) s place out)
  unfolding walked walked_over
  walk-bad e = rw (← e) (refl, refl)

  -- by the refusal that the code has
  pub walk-refusing : (e : Refusal) → refusal_as e ≡ check (both s) s → (refusal_as e ≡ walked s place (length out)) × (out ≡ walked_over (walked s place (length out)) s place out)
  walk-refusing e h = by (refusal_as e) h (refused ℕ e)
    where
      by : (x : Answer ℕ) → x ≡ check (both s) s → given x ≡ false → (x ≡ walked s place (length out)) × (out ≡ walked_over (walked s place (length out)) s place out)
      by (Gives n) g u = cc
      by (Refused n) g u = walk_refused g
      by (RefusedAt n bad) g u = walk-bad g

-- a book's records are all there, so that no number of a walk stands for a refusal
pub all_there : {A : Type 0} (format : Format A) (sensible : Sensible format.frame) (s : List ℕ) (n : ℕ) → check format s ≡ Gives n → (i : ℕ) → i < n → given (entry_at format s i) ≡ true
all_there format sensible s n e i h =
    let c = counted format sensible s n e in
    ap given (entry-by format s i (record-here format sensible s n c i h)) ∙ sound-here format sensible s n c i h
