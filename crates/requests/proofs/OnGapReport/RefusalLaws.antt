-- "Refusals: 9, 10, 11 as for the book": a report is refused exactly where the book's check is, with the same number and place, and a text
-- is given exactly where the check gives a number. Assumes nothing.
use mathlib.Core.Path.{◌≡◌, refl}
use mathlib.Core.Logic.{◌↔◌}
use mathlib.Core.List.{List}
use Prim.Native.Nat.{ℕ}
use lib.ListN.{length}
use Rattle.rules.specs.Refusals.{Answer, Gives, Refused, RefusedAt, ◌then◌, given}
use Rattle.rules.specs.Book.{records, check}
use Rattle.rules.proofs.OnBook.FrameLaws.{same-refusal, same_place}
use Rattle.requests.specs.Both.{both}
use Rattle.requests.specs.GapReport.{report_text, report}

-- ---- two answers that are told of one, and refuse nothing themselves

module _ {A B C : Type 0} (x : Answer A) (f : A → B) (g : A → C) where
  pub refused-too : (n : ℕ) → (x then λ a. Gives (f a)) ≡ Refused n → (x then λ a. Gives (g a)) ≡ Refused n
  refused-too n e = rw (same-refusal x f n e)

  pub bad-too : (n place : ℕ) → (x then λ a. Gives (f a)) ≡ RefusedAt n place → (x then λ a. Gives (g a)) ≡ RefusedAt n place
  bad-too n place e = rw (same_place x f n place e)

given-too : {A B C : Type 0} (x : Answer A) (f : A → B) (g : A → C) → given (x then λ a. Gives (f a)) ≡ given (x then λ a. Gives (g a))
given-too (Gives a) f g = refl
given-too (Refused n) f g = refl
given-too (RefusedAt n place) f g = refl

-- ---- the report and the check, told of the book's records

module _ (s : List ℕ) where
  abbrev text : List (List ℕ) → List ℕ
  text = report_text (both s)

  -- 9 and 10
  pub report-refused : (n : ℕ) → (report s ≡ Refused n) ↔ (check (both s) s ≡ Refused n)
  unfolding report check
  report-refused n = (refused-too (records (both s) s) text length n, refused-too (records (both s) s) length text n)

  -- 11, with the place of the first bad record
  pub report-bad : (n place : ℕ) → (report s ≡ RefusedAt n place) ↔ (check (both s) s ≡ RefusedAt n place)
  unfolding report check
  report-bad n place = (bad-too (records (both s) s) text length n place, bad-too (records (both s) s) length text n place)

  -- a text is given exactly where the book's records are counted
  pub report-given : given (report s) ≡ given (check (both s) s)
  unfolding report check
  report-given = given-too (records (both s) s) text length
