-- What stands before a step that always gives refused as the two together did. Assumes nothing.
use Rattle.std.proofs.Common.{◌≡◌, ap, ◌∙◌, true, false}
use Rattle.rules.specs.Refusals.{Answer, Gives, Refused, RefusedAt, ◌then◌, given}
use Rattle.refusals.specs.declared.Refusal.{Refusal}
use Rattle.refusals.specs.Answers.{refusal_as}
use Rattle.refusals.proofs.RefusalLaws.{refused, refusal-then}

pub refused-before : {A B : Type 0} (e : Refusal) (x : Answer A) (f : A → B) → ◌≡◌ {A = Answer B} (x then λ a. Gives (f a)) (refusal_as e) → x ≡ refusal_as e
refused-before {B = B} e (Gives a) f h = let none : true ≡ false = ap given h ∙ refused B e in cc
refused-before {A = A} {B = B} e (Refused n) f h =
    ap (λ (y : Answer B). ◌then◌ {B = A} y (λ _. Refused 0)) h ∙ refusal-then e (λ _. Refused 0)
refused-before {A = A} {B = B} e (RefusedAt n place) f h =
    ap (λ (y : Answer B). ◌then◌ {B = A} y (λ _. Refused 0)) h ∙ refusal-then e (λ _. Refused 0)
