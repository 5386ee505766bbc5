-- The digits' value with its sign.
use Rattle.std.proofs.Common.{◌≡◌, ◌∙◌, List, ℕ, ℤ, w64}
use Rattle.sign.proofs.Laws.{sub-below, sub-above}
use Rattle.sign.proofs.Bits.{held}
use Rattle.rules.specs.Refusals.{Answer, Gives}
use Rattle.rules.specs.Text.{Read}
use Rattle.scalar.specs.Number.{number_of}
use Rattle.scalar.proofs.number_from.Goals as goal

given : {y z : ℤ} (s : List ℕ) → y ≡ z → ◌≡◌ {A = Answer (Read ℤ)} (Gives (record { value = y; rest = s })) (Gives (record { value = z; rest = s }))
given s e = λ i. Gives (record { value = e i; rest = s })

pub returns-in_err-value-clause-result_value : goal.returns-in_err-value-clause-result_value
unfolding number_of
returns-in_err-value-clause-result_value c =
    rw (c.from_residual.ensures, ← c.in_err-value.ensures.result_value)

pub returns-then-negative-clause-result_value : goal.returns-then-negative-clause-result_value
unfolding number_of
returns-then-negative-clause-result_value c =
    rw (c.if-negative.true, ← c.in_ok-value.ensures.result_value) (given _ (held w64 c.int-value.type_inv ∙ c.int-value.ensures ∙ sub-below _))

pub returns-else-negative-clause-result_value : goal.returns-else-negative-clause-result_value
unfolding number_of
returns-else-negative-clause-result_value c =
    rw (c.if-negative.false, ← c.in_ok-value.ensures.result_value) (given _ (held w64 c.int-value-else-negative.type_inv ∙ c.int-value-else-negative.ensures ∙ sub-above _))
