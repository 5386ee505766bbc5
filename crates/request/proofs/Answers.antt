-- The date that a line is answered, or its refusal: which refusals there are is a law of `rules`. Assumes nothing.
use Rattle.std.specs.Prelude.{◌≡◌, refl, true, false, List, ℕ, ◌<◌, Option, Some, None, Result, Ok, Err, ok_or}
use Rattle.std.proofs.Common.{rules, sym, ap, ◌∙◌, subst, arith}
use Rattle.rules.specs.Refusals.{Answer, Gives, Refused, given}
use Rattle.rules.specs.Kinds.{Kind, Stored, store_with}
use Rattle.rules.specs.Listing.{Way, has_way, date_by}
use Rattle.rules.proofs.OnRefusals.Determined.{back_by}
use Rattle.rules.proofs.OnRefusals.OutcomeLaws.{Outcome, gives, refuses, Any, outcome-then}
use Rattle.rules.proofs.OnListing.RefusalLaws.{RefusedBy, date-outcome, one-digit-by}
use Rattle.refusals.specs.declared.Refusal.{Refusal}
use Rattle.refusals.specs.declared.Refusal.TheVariants as R
use Rattle.refusals.specs.Numbers.{number_of}
use Rattle.refusals.specs.Answers.{refusal_as, result_as}
use Rattle.refusals.proofs.RefusalLaws.{refused}
use Rattle.kinds.specs.declared.Packed.{Packed}
use Rattle.request.specs.Views.{mark_by, asked_as, refusal_in}

-- the number in the answer that a refusal is
pub number-told : (e : Refusal) → back_by {A = Stored} (λ a. 0) (λ n. n) (refusal_as e) ≡ number_of e
number-told R.TooLong = refl
number-told R.NotText = refl
number-told R.NotNumber = refl
number-told R.NotOfKind = refl
number-told R.SumOverflows = refl
number-told R.OutOfRange = refl
number-told R.BufferShort = refl
number-told R.TooManyBytes = refl
number-told R.BadLength = refl
number-told R.BadVersion = refl
number-told (R.BadRecord place) = refl
number-told R.NoRoom = refl
number-told R.NoRecord = refl
number-told R.BadEntry = refl
number-told R.TableFull = refl
number-told R.NotThere = refl
number-told R.GuessedDate = refl
number-told (R.FieldOrMark place) = refl

-- a refusal that an answer can have is one of those that it can have
refused-by : {P : ℕ → Type 0} {x : Answer Stored} (e : Refusal) → Outcome P Any x → x ≡ refusal_as e → P (number_of e)
refused-by e (gives p) same = search (rules, ap given same ∙ refused Stored e)
refused-by {P = P} e (refuses r) same = subst P (ap (back_by (λ a. 0) (λ n. n)) same ∙ number-told e) r

module _ (k : Kind) (w : Way) (rest : List ℕ) (has : has_way k w ≡ true) where
  told : Outcome (RefusedBy w) Any (store_with (mark_by w) (date_by w k rest))
  told = outcome-then (date-outcome w k rest has) (λ f. gives tt)

  one-digit : (r : Result Packed Refusal) → asked_as r ≡ store_with (mark_by w) (date_by w k rest) → refusal_in r < 10
  one-digit (Ok p) e = omega arith
  one-digit (Err r) e = one-digit-by w (number_of r) (refused-by r told (sym e))

  -- what the reader of the way answers is what the line is answered, and its refusal has one digit
  pub by_way : {v : Way} (r : Result Packed Refusal) → w ≡ v → asked_as r ≡ store_with (mark_by v) (date_by v k rest) → (asked_as r ≡ store_with (mark_by w) (date_by w k rest)) × (refusal_in r < 10)
  by_way r e q = let p = q ∙ ap (λ (x : Way). store_with (mark_by x) (date_by x k rest)) (sym e) in (p, one-digit r p)

-- an Option with the refusal for where it is None, as the view of the Option has it
pub or-refusal : {T A : Type 0} (f : T → A) (e : Refusal) (o : Option T) (view : Option T → Answer A) →
    ((t : T) → view (Some t) ≡ Gives (f t)) → view None ≡ refusal_as e → result_as f (ok_or o e) ≡ view o
or-refusal f e (Some t) view some none = sym (some t)
or-refusal f e None view some none = sym none
