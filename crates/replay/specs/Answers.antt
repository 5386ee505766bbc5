-- What is told of a kind's answer, and what `rules` answers to what is asked. Assumes nothing.
use Rattle.std.specs.Prelude.{ℕ, Bool, true, false, List, ℤ, pos, Result}
use Rattle.rules.specs.Words.{minus}
use Rattle.rules.specs.Refusals.{Answer, Gives, ◌then◌}
use Rattle.rules.specs.Kinds.{Kind, Fields, Stored, from_fields, stored, store_guess, store, store_like, of_date, of_dates, without_mark, least, greatest}
use Rattle.rules.specs.Numbers.{reads_numbers, read_number, guesses, guess_number, writes_numbers, write_number}
use Rattle.rules.specs.Days.{counts_days, add_days, difference, Order, Before, Same, After, order}
use Rattle.rules.specs.Text.{read_text}
use Rattle.requests.specs.IsoReader.{read_iso}
use Rattle.kinds.specs.declared.Packed.{Packed}
use Rattle.kinds.specs.Views.{bits_of}
use Rattle.refusals.specs.declared.Refusal.{Refusal}
use Rattle.refusals.specs.Answers.{result_as}
use Rattle.replay.specs.declared.answers.Told.{Told}
use Rattle.replay.specs.declared.answers.Told.TheVariants as T

-- what is told where nothing is refused: a date, a number, or that the kind has no such method to ask
pub data Value : Type 0 where
  Dated : Stored → Value
  Counted : ℤ → Value
  Unasked : Value

abbrev pub value_of : Told → Value
value_of (T.Date d) = Dated (bits_of d)
value_of (T.Number n) = Counted n
value_of T.Unasked = Unasked

abbrev pub told_as : Result Told Refusal → Answer Value
told_as = result_as value_of

abbrev pub dated : Answer Stored → Answer Value
dated a = a then λ d. Gives (Dated d)

abbrev pub counted : Answer ℤ → Answer Value
counted a = a then λ n. Gives (Counted n)

-- the answer of a kind that has the method
abbrev pub had : Bool → Answer Value → Answer Value
had true a = a
had false a = Gives Unasked

-- ---- from texts, numbers and fields

abbrev pub text_answer : Kind → List ℕ → Answer Value
text_answer k s = dated (store (read_text k s))

abbrev pub iso_answer : Kind → List ℕ → Answer Value
iso_answer k s = dated (store (read_iso k s))

abbrev pub number_answer : Kind → ℤ → Answer Value
number_answer k n = had (reads_numbers k) (dated (store (read_number k n)))

abbrev pub guess_answer : Kind → ℤ → Answer Value
guess_answer k n = had (guesses k) (dated (store_guess (guess_number k n)))

abbrev pub fields_answer : Kind → Fields → Answer Value
fields_answer k f = dated (store (from_fields k f))

-- ---- of dates handed in

abbrev pub sum_answer : Kind → Packed → ℤ → Answer Value
sum_answer k d days = had (counts_days k) (dated (store_like (bits_of d) (of_date k (bits_of d) (λ f. add_days k f days))))

abbrev pub difference_answer : Kind → Packed → Packed → Answer Value
difference_answer k d e = had (counts_days k) (counted (of_dates k (bits_of d) (bits_of e) (λ f g. difference k f g)))

abbrev pub binary_answer : Kind → Packed → Answer Value
binary_answer k d = had (writes_numbers k) (counted (of_date k (bits_of d) (λ f. write_number k f)))

-- an order as the original's `cmp` has it
abbrev pub order_number : Order → ℤ
order_number Before = minus 1
order_number Same = pos 0
order_number After = pos 1

abbrev pub ordering : Answer Order → Answer Value
ordering a = a then λ o. Gives (Counted (order_number o))

abbrev pub order_answer : Kind → Packed → Packed → Answer Value
order_answer k d e = ordering (of_dates k (bits_of d) (bits_of e) (λ f g. Gives (order f g)))

-- a date without its mark
abbrev pub unmarked_answer : Kind → Packed → Answer Value
unmarked_answer k d = dated (without_mark k (bits_of d))

-- ---- the constants

abbrev pub least_answer : Kind → Answer Value
least_answer k = Gives (Dated (stored (least k)))

abbrev pub greatest_answer : Kind → Answer Value
greatest_answer k = Gives (Dated (stored (greatest k)))
