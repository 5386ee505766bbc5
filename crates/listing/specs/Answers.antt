-- The answers of the code, as those of `rules`. Assumes nothing.
use Rattle.std.specs.Prelude.{ℕ, Result, Ok, Err}
use Rattle.rules.specs.Refusals.{Answer}
use Rattle.refusals.specs.declared.Refusal.{Refusal}
use Rattle.refusals.specs.Answers.{result_as}

abbrev pub listed_as : Result ℕ Refusal → Answer ℕ
listed_as r = result_as (λ n. n) r

-- how many bytes of the buffer were written
abbrev pub length_of : Result ℕ Refusal → ℕ
length_of (Ok n) = n
length_of (Err e) = 0

-- #110
abbrev pub lent_as : Result ℕ Refusal → Answer ℕ
lent_as r = result_as (λ n. n) r
