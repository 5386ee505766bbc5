-- The views of `Answers` can be read back, wherever the view of the value can: a contract that is an equation for one of them allows one
-- result. Assumes nothing.
use Rattle.std.specs.Prelude.{ℕ, ◌≡◌, cond, ◌==◌, refl, Option, Some, None, Result, Ok, Err}
use Rattle.std.proofs.Common.{ap}
use Rattle.rules.specs.Refusals.{Answer, Gives, Refused, RefusedAt, bad_record, too_long, not_text, not_number, not_of_kind, sum_overflows, out_of_range, buffer_short, bad_length, bad_version, no_room, no_record, guessed_date}
use Rattle.rules.proofs.OnRefusals.Determined.{Determines, determined}
use Rattle.requests.specs.FieldTable.{bad_entry, table_full, not_there}
use Rattle.requests.specs.ListingRoom.{too_many_bytes}
use Rattle.refusals.specs.declared.Refusal.{Refusal}
use Rattle.refusals.specs.declared.Refusal.TheVariants as R
use Rattle.refusals.specs.Answers.{refusal_as, result_as, option_as}

abbrev numbered : ℕ → Refusal
numbered n =
    cond (n == too_long) R.TooLong (cond (n == not_text) R.NotText (cond (n == not_number) R.NotNumber
    (cond (n == not_of_kind) R.NotOfKind (cond (n == sum_overflows) R.SumOverflows (cond (n == out_of_range) R.OutOfRange
    (cond (n == buffer_short) R.BufferShort (cond (n == too_many_bytes) R.TooManyBytes (cond (n == bad_length) R.BadLength
    (cond (n == bad_version) R.BadVersion (cond (n == no_room) R.NoRoom (cond (n == no_record) R.NoRecord
    (cond (n == bad_entry) R.BadEntry (cond (n == table_full) R.TableFull (cond (n == not_there) R.NotThere R.GuessedDate))))))))))))))

abbrev placed : ℕ → ℕ → Refusal
placed n place = cond (n == bad_record) (R.BadRecord place) (R.FieldOrMark place)

abbrev pub result_back : {T A : Type 0} → (A → T) → Answer A → Result T Refusal
result_back back (Gives a) = Ok (back a)
result_back back (Refused n) = Err (numbered n)
result_back back (RefusedAt n place) = Err (placed n place)

abbrev pub option_back : {T A : Type 0} → (A → T) → Answer A → Option T
option_back back (Gives a) = Some (back a)
option_back back (Refused n) = None
option_back back (RefusedAt n place) = None

pub refusal-back : {T A : Type 0} (back : A → T) (e : Refusal) → result_back back (refusal_as e) ≡ Err e
refusal-back back R.TooLong = refl
refusal-back back R.NotText = refl
refusal-back back R.NotNumber = refl
refusal-back back R.NotOfKind = refl
refusal-back back R.SumOverflows = refl
refusal-back back R.OutOfRange = refl
refusal-back back R.BufferShort = refl
refusal-back back R.TooManyBytes = refl
refusal-back back R.BadLength = refl
refusal-back back R.BadVersion = refl
refusal-back back (R.BadRecord place) = refl
refusal-back back R.NoRoom = refl
refusal-back back R.NoRecord = refl
refusal-back back R.BadEntry = refl
refusal-back back R.TableFull = refl
refusal-back back R.NotThere = refl
refusal-back back R.GuessedDate = refl
refusal-back back (R.FieldOrMark place) = refl

module _ {T A : Type 0} (f : T → A) (back : A → T) (left : (t : T) → back (f t) ≡ t) where
  result-back : (r : Result T Refusal) → result_back back (result_as f r) ≡ r
  result-back (Ok value) = ap Ok (left value)
  result-back (Err e) = refusal-back back e

  -- an equation for the view of a Result allows one result
  pub result-determined : Determines (result_as f)
  result-determined = determined (result_as f) (result_back back) result-back

  option-back : (n : ℕ) (r : Option T) → option_back back (option_as n f r) ≡ r
  option-back n (Some value) = ap Some (left value)
  option-back n None = refl

  -- the same of an Option
  pub option-determined : (n : ℕ) → Determines (option_as n f)
  option-determined n = determined (option_as n f) (option_back back) (option-back n)
