-- What the code answers, a Result or an Option, as an answer of `rules`. Assumes nothing.
use Rattle.std.specs.Prelude.{ℕ, Option, Some, None, Result, Ok, Err}
use Rattle.rules.specs.Refusals.{Answer, Gives, Refused, RefusedAt, bad_record}
use Rattle.requests.specs.Moves.{field_or_mark}
use Rattle.refusals.specs.declared.Refusal.{Refusal}
use Rattle.refusals.specs.declared.Refusal.TheVariants as R
use Rattle.refusals.specs.Numbers.{number_of}

-- a refusal: those of a record tell its place
abbrev pub refusal_as : {A : Type 0} → Refusal → Answer A
refusal_as (R.BadRecord place) = RefusedAt bad_record place
refusal_as (R.FieldOrMark place) = RefusedAt field_or_mark place
refusal_as r = Refused (number_of r)

-- a value, as the view `f` of it, or why there is none
abbrev pub result_as : {T A : Type 0} → (T → A) → Result T Refusal → Answer A
result_as f (Ok value) = Gives (f value)
result_as f (Err refusal) = refusal_as refusal

-- a value, as the view `f` of it, or the refusal n
abbrev pub option_as : {T A : Type 0} → ℕ → (T → A) → Option T → Answer A
option_as n f (Some value) = Gives (f value)
option_as n f None = Refused n
