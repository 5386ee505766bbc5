-- Each answer is determined: two that a contract allows are equal, since the view that the contract names can be read back.
-- Assumes nothing.
use Rattle.std.specs.Prelude.{◌≡◌, ℤ, refl, Option, Some, None}
use Rattle.rules.specs.Refusals.{Answer, not_number}
use Rattle.rules.specs.Kinds.{Fields, Stored}
use Rattle.rules.proofs.OnRefusals.Determined.{Determines, DeterminesEach, determined, determined-at, back_one}
use Rattle.kinds.specs.declared.ExpandedRawDate.{ExpandedRawDate}
use Rattle.kinds.specs.declared.Packed.{Packed}
use Rattle.kinds.proofs.Determined.{packed_of, expanded_of}
use Rattle.number.specs.declared.Guess.{Guess}
use Rattle.number.specs.Views.{numbered_as, read_as, guessed_as, written_as}

abbrev fields_back : Answer Fields → Option ExpandedRawDate
fields_back = back_one (λ f. Some (expanded_of f)) None

fields-back : (r : Option ExpandedRawDate) → fields_back (numbered_as not_number r) ≡ r
fields-back (Some e) = refl
fields-back None = refl

-- the contract holds for every refusal n
pub numbered-determined : DeterminesEach numbered_as
numbered-determined = determined-at numbered_as not_number (determined (numbered_as not_number) fields_back fields-back)

abbrev date_back : Answer Stored → Option Packed
date_back = back_one (λ d. Some (packed_of d)) None

date-back : (r : Option Packed) → date_back (read_as r) ≡ r
date-back (Some d) = refl
date-back None = refl

pub read_as-determined : Determines read_as
read_as-determined = determined read_as date_back date-back

abbrev guess_back : Answer Stored → Option Guess
guess_back = back_one (λ d. Some (record { date = packed_of d })) None

guess-back : (r : Option Guess) → guess_back (guessed_as r) ≡ r
guess-back (Some g) = refl
guess-back None = refl

pub guessed_as-determined : Determines guessed_as
guessed_as-determined = determined guessed_as guess_back guess-back

abbrev number_back : Answer ℤ → Option ℤ
number_back = back_one Some None

number-back : (r : Option ℤ) → number_back (written_as r) ≡ r
number-back (Some n) = refl
number-back None = refl

pub written_as-determined : Determines written_as
written_as-determined = determined written_as number_back number-back
