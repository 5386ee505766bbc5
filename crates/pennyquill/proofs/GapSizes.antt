-- The numbers that a gap report answers are small, so that 32 bits hold them: lengths and places. Assumes nothing.
use mathlib.Core.Path.{◌≡◌, refl}
use mathlib.Core.List.{List}
use Prim.Native.Nat.{ℕ, ◌≤◌}
use native.Mathlib.Omega.{arith}
use lib.Dec.{leb}
use lib.IntN.{ℤ}
use lib.ListN.{length}
use Rattle.rules.specs.Refusals.{Answer, Gives, Refused, RefusedAt}
use Rattle.rules.specs.Spelling.{put_answer}
use Rattle.rules.specs.Book.{records}
use Rattle.requests.specs.Both.{both}
use Rattle.requests.specs.GapReport.{report}
use Rattle.requests.proofs.OnGapReport.RoomLaws.{report-room}
use Rattle.requests.proofs.OnGapReport.RefusalLaws.{report-bad}
use Rattle.gap_report.specs.Figures.{figures, figures_answer}
use Rattle.gap_report.proofs.AnswerLaws.{figures-long}
use Rattle.pennyquill.specs.Boundary.{number_of}
use Rattle.pennyquill.proofs.Sizes.{Small, Few, small-then, small-demand, small-number}
use Rattle.pennyquill.proofs.BookSizes.{records-small, check-small, either}

-- at most as many bytes, or numbers, as a book has records at most
abbrev FewOf : {A : Type 0} → List A → Type 0
FewOf l = length l ≤ 4096

module _ (s : List ℕ) where
  text-small : Small FewOf (report s)
  text-small = by (report s) refl
    where
      by : (x : Answer (List ℕ)) → report s ≡ x → Small FewOf x
      by (Gives text) e = let r = report-room s text e in omega arith
      by (Refused n) e = tt
      by (RefusedAt n place) e = rw ((report-bad s n place).0 e) at (check-small (both s) (either s) s)

  pub report-small : (out : List ℕ) → number_of (put_answer (report s) out) ≤ 4096
  unfolding put_answer
  report-small out =
      small-number (put_answer (report s) out)
      (small-then FewOf Few (report s) _ text-small (λ text few. small-demand Few (leb (length text) (length out)) _ _ (λ fits. few)))

  numbers-small : Small FewOf (figures s)
  unfolding figures
  numbers-small =
      small-then _ FewOf (records (both s) s) _ (records-small (both s) (either s) s) (λ rs few. let l = figures-long (both s) rs in omega arith)

  pub figures-small : (out : List ℤ) → number_of (figures_answer (figures s) out) ≤ 4096
  unfolding figures_answer
  figures-small out =
      small-number (figures_answer (figures s) out)
      (small-then FewOf Few (figures s) _ numbers-small (λ ns few. small-demand Few (leb (length ns) (length out)) _ _ (λ fits. few)))
