-- The answers of the code, as what the text says: a place stands for the rest of the text from there. Assumes nothing.
use Rattle.std.specs.Prelude.{ℕ, List, ℤ, drop, Option, Some, None}
use Rattle.rules.specs.Refusals.{Answer, Gives, Refused, not_text}
use Rattle.rules.specs.Text.{Read}
use Rattle.scalar.specs.declared.Partial.{Partial}
use Rattle.scalar.specs.declared.Leading.{Leading}

abbrev pub partial_as : List ℕ → Option Partial → Answer (Read ℕ)
partial_as s (Some r) = Gives (record { value = r.value; rest = drop r.next s })
partial_as s None = Refused not_text

abbrev pub place_of : Option Partial → ℕ
place_of (Some r) = r.next
place_of None = 0

abbrev pub value_of : Option Partial → ℕ
value_of (Some r) = r.value
value_of None = 0

abbrev pub leading_as : List ℕ → Option Leading → Answer (Read ℤ)
leading_as s (Some r) = Gives (record { value = r.value; rest = drop r.next s })
leading_as s None = Refused not_text

abbrev pub next_of : Option Leading → ℕ
next_of (Some r) = r.next
next_of None = 0
