-- The leading number of `rules`, where its value fits 63 bits; and the parts in which the code reads it. Assumes nothing.
use Rattle.std.specs.Prelude.{ℕ, ◌+◌, ◌*◌, ◌^◌, Bool, true, false, List, leb, ℤ, pos, nat_abs, length}
use Rattle.rules.specs.Words.{minus}
use Rattle.rules.specs.Refusals.{Answer, Gives, ◌then◌, demand, not_text}
use Rattle.rules.specs.Text.{Read, digits, after_digits, decimal_value, signed, leading}

-- the greatest value of 63 bits
abbrev pub most63 : ℕ
most63 = 9223372036854775807

unfoldable pub leading_number : List ℕ → Answer (Read ℤ)
leading_number s = leading s then λ r. demand (leb (nat_abs r.value) most63) not_text (Gives r)

-- the value of the digits that s starts with, going on from `start`
abbrev pub value_from : ℕ → List ℕ → ℕ
value_from start s = start * 10 ^ length (digits s) + decimal_value (digits s)

unfoldable pub partial_of : ℕ → List ℕ → Answer (Read ℕ)
partial_of start s = demand (leb (value_from start s) most63) not_text (Gives (record { value = value_from start s; rest = after_digits s }))

abbrev pub sign_of : Bool → ℕ → ℤ
sign_of true n = minus n
sign_of false n = pos n

-- the same with a sign
unfoldable pub number_of : Bool → ℕ → List ℕ → Answer (Read ℤ)
number_of negative start s = partial_of start s then λ r. Gives (signed (sign_of negative) r)
