-- The answer of the code, as that of `rules`: how many bytes were written, or numbers. Assumes nothing.
use Rattle.std.specs.Prelude.{ℕ, Result}
use Rattle.rules.specs.Refusals.{Answer}
use Rattle.refusals.specs.declared.Refusal.{Refusal}
use Rattle.refusals.specs.Answers.{result_as}

abbrev pub reported_as : Result ℕ Refusal → Answer ℕ
reported_as = result_as (λ n. n)
