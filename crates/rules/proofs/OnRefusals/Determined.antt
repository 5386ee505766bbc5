-- A contract is an equation for a view of the result. Where the view can be read back, it allows one result and no other.
-- Assumes nothing.
use mathlib.Core.Path.{◌≡◌, sym, ap, ◌∙◌}
use mathlib.Core.Bool.{cond}
use Prim.Native.Nat.{ℕ}
use lib.Dec.{eqb}
use Rattle.rules.specs.Refusals.{Answer, Gives, Refused, RefusedAt, too_long, not_of_kind, sum_overflows}

-- ---- the laws

-- two results r and s that the equation `view _ ≡ x` allows are equal
abbrev pub Determines : {A B : Type 0} → (A → B) → Type 0
Determines {A = A} {B = B} view = (r s : A) (x : B) → view r ≡ x → view s ≡ x → r ≡ s

-- the same where a contract holds for every i
abbrev pub DeterminesEach : {I A B : Type 0} → (I → A → B) → Type 0
DeterminesEach {I = I} {A = A} {B = B} view =
    (r s : A) (x : I → B) → ((i : I) → view i r ≡ x i) → ((i : I) → view i s ≡ x i) → r ≡ s

-- two results that are read back, as where a second clause of the contract is needed for it
pub same_back : {A B : Type 0} (view : A → B) (back : B → A) {x : B} {r s : A} →
    back (view r) ≡ r → back (view s) ≡ s → view r ≡ x → view s ≡ x → r ≡ s
same_back view back p q e f = sym p ∙ ap back (e ∙ sym f) ∙ q

pub determined : {A B : Type 0} (view : A → B) (back : B → A) → ((a : A) → back (view a) ≡ a) → Determines view
determined view back left r s x e f = same_back view back (left r) (left s) e f

-- one i is enough
pub determined-at : {I A B : Type 0} (view : I → A → B) (i : I) → Determines (view i) → DeterminesEach view
determined-at view i one r s x e f = one r s (x i) (e i) (f i)

-- ---- an answer read back: by its value, or by the number of its refusal

abbrev pub back_by : {A T : Type 0} → (A → T) → (ℕ → T) → Answer A → T
back_by value refusal (Gives a) = value a
back_by value refusal (Refused n) = refusal n
back_by value refusal (RefusedAt n place) = refusal n

-- where there is one refusal
abbrev pub back_one : {A T : Type 0} → (A → T) → T → Answer A → T
back_one value none = back_by value (λ n. none)

-- where a text is too long, or none
abbrev pub back_text : {A T : Type 0} → (A → T) → T → T → Answer A → T
back_text value long none = back_by value (λ n. cond (eqb n too_long) long none)

-- where a date handed in is none, or a sum overflows, or is no date's
abbrev pub back_sum : {A T : Type 0} → (A → T) → T → T → T → Answer A → T
back_sum value none over out = back_by value (λ n. cond (eqb n not_of_kind) none (cond (eqb n sum_overflows) over out))
