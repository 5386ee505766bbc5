-- What the report and its figures answer, by what the check of the book says. Assumes nothing.
use mathlib.Core.Path.{◌≡◌, refl, sym}
use mathlib.Core.Bool.{false}
use mathlib.Core.List.{List, ◌++◌}
use Prim.Native.Nat.{ℕ, ◌≤◌, ◌<◌}
use borrow.Author.Tests.{le-leb, lt-leb}
use lib.IntN.{ℤ}
use lib.ListN.{length, drop, length-append}
use Rattle.rules.specs.Refusals.{Answer, Gives, Refused, RefusedAt, ◌then◌, given, buffer_short}
use Rattle.rules.specs.Kinds.{Kind, kR, kD, kH, kU, kE, kV}
use Rattle.rules.specs.Spelling.{put_answer, put_buffer}
use Rattle.rules.specs.Book.{Format, records, check}
use Rattle.rules.proofs.OnBook.FrameLaws.{then-met}
use Rattle.refusals.specs.declared.Refusal.{Refusal}
use Rattle.refusals.specs.Answers.{refusal_as}
use Rattle.refusals.proofs.RefusalLaws.{refused, refusal-then}
use Rattle.frame.proofs.Refusing.{refused-before}
use Rattle.requests.specs.Second.{FieldEntry}
use Rattle.requests.specs.Both.{both}
use Rattle.requests.specs.Gaps.{placed_from}
use Rattle.requests.specs.GapReport.{report_text, report}
use Rattle.gap_report.specs.Walk.{list_of, records_in}
use Rattle.gap_report.specs.Figures.{kind_figures, together, figures_of, figures, figures_answer, figures_over}
use Rattle.gap_report.proofs.FigureLaws.{six-long}

-- ---- what is told of the records

-- an answer that counts them gives them
counted-them : {B : Type 0} (x : Answer (List (List ℕ))) (tell : List (List ℕ) → B) (n : ℕ) → (x then λ rs. Gives (length rs)) ≡ Gives n →
    (x then λ rs. Gives (tell rs)) ≡ Gives (tell (list_of x))
counted-them x tell n e = let m = then-met x (λ rs. Gives (length rs)) n e in rw m.is

module _ (s : List ℕ) where
  pub report-given : (n : ℕ) → check (both s) s ≡ Gives n → report s ≡ Gives (report_text (both s) (records_in s))
  unfolding check report
  report-given n e = counted-them (records (both s) s) (report_text (both s)) n e

  pub figures-given : (n : ℕ) → check (both s) s ≡ Gives n → figures s ≡ Gives (figures_of (both s) (records_in s))
  unfolding check figures
  figures-given n e = counted-them (records (both s) s) (figures_of (both s)) n e

  -- by the refusal that the code has
  module _ (e : Refusal) (h : check (both s) s ≡ refusal_as e) where
    none-told : records (both s) s ≡ refusal_as e
    unfolding check
    none-told = refused-before e (records (both s) s) length h

    pub report-refusing : report s ≡ refusal_as e
    unfolding report
    report-refusing = rw none-told (refusal-then e _)

    pub figures-refusing : figures s ≡ refusal_as e
    unfolding figures
    figures-refusing = rw none-told (refusal-then e _)

-- ---- a refusal, and the buffer stays

module _ (a : Answer (List ℕ)) (out : List ℕ) where
  pub text-refusing : (e : Refusal) → a ≡ refusal_as e → (refusal_as e ≡ put_answer a out) × (out ≡ put_buffer a out)
  unfolding put_answer put_buffer
  text-refusing e h = rw h (sym (refusal-then e _), by (refusal_as e) (refused _ e))
    where
      by : (x : Answer (List ℕ)) → given x ≡ false → out ≡ put_buffer x out
      by (Gives t) g = cc
      by (Refused n) g = refl
      by (RefusedAt n place) g = refl

module _ (a : Answer (List ℤ)) (out : List ℤ) where
  abbrev Answered : Answer ℕ → List ℤ → Type 0
  Answered answer after = (answer ≡ figures_answer a out) × (after ≡ figures_over a out)

  pub numbers-refused : (n : ℕ) → a ≡ Refused n → Answered (Refused n) out
  unfolding figures_answer figures_over
  numbers-refused n e = rw e (refl, refl)

  pub numbers-refusing : (e : Refusal) → a ≡ refusal_as e → Answered (refusal_as e) out
  unfolding figures_answer figures_over
  numbers-refusing e h = rw h (sym (refusal-then e _), by (refusal_as e) (refused _ e))
    where
      by : (x : Answer (List ℤ)) → given x ≡ false → out ≡ figures_over x out
      by (Gives ns) g = cc
      by (Refused n) g = refl
      by (RefusedAt n place) g = refl

  -- ---- the figures, of which there are 36

  module _ (ns : List ℤ) (g : a ≡ Gives ns) (long : length ns ≡ 36) where
    pub numbers-short : length out < 36 → Answered (Refused buffer_short) out
    unfolding figures_answer figures_over
    numbers-short h = rw (g, long, lt-leb 36 (length out) h) (refl, refl)

    pub numbers_fit : 36 ≤ length out → (after : List ℤ) → after ≡ ns ++ drop 36 out → Answered (Gives 36) after
    unfolding figures_answer figures_over
    numbers_fit h after e = rw (g, long, le-leb 36 (length out) h) (refl, e)

pub figures-long : (format : Format FieldEntry) (rs : List (List ℕ)) → length (figures_of format rs) ≡ 36
unfolding figures_of together
figures-long format rs =
    let six : (k : Kind) → length (kind_figures k (placed_from format k 0 rs)) ≡ 6 = λ k. six-long k (placed_from format k 0 rs) in
    simp length-append (rw (six kR, six kD, six kH, six kU, six kE, six kV) refl)
