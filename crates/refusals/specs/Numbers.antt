-- The number of each refusal, by the name that document 01's or 02's definitions have for it. Assumes nothing.
use Rattle.std.specs.Prelude.{ℕ}
use Rattle.rules.specs.Refusals.{too_long, not_text, not_number, not_of_kind, sum_overflows, out_of_range, buffer_short, bad_length, bad_version, bad_record, no_room, no_record, guessed_date}
use Rattle.requests.specs.FieldTable.{bad_entry, table_full, not_there}
use Rattle.requests.specs.Moves.{field_or_mark}
use Rattle.requests.specs.ListingRoom.{too_many_bytes}
use Rattle.refusals.specs.declared.Refusal.{Refusal}
use Rattle.refusals.specs.declared.Refusal.TheVariants as R

abbrev pub number_of : Refusal → ℕ
number_of R.TooLong = too_long
number_of R.NotText = not_text
number_of R.NotNumber = not_number
number_of R.NotOfKind = not_of_kind
number_of R.SumOverflows = sum_overflows
number_of R.OutOfRange = out_of_range
number_of R.BufferShort = buffer_short
number_of R.TooManyBytes = too_many_bytes
number_of R.BadLength = bad_length
number_of R.BadVersion = bad_version
number_of (R.BadRecord place) = bad_record
number_of R.NoRoom = no_room
number_of R.NoRecord = no_record
number_of R.BadEntry = bad_entry
number_of R.TableFull = table_full
number_of R.NotThere = not_there
number_of R.GuessedDate = guessed_date
number_of (R.FieldOrMark place) = field_or_mark
