-- The format of a table from its three numbers, and the code's answers as those of `requests`. Assumes nothing.
use Rattle.std.specs.Prelude.{ℕ, Bool, true, false, Option, Result}
use Rattle.rules.specs.Refusals.{Answer, Gives, ◌then◌}
use Rattle.rules.specs.Kinds as K
use Rattle.requests.specs.FieldTable as T
use Rattle.kinds.specs.Views.{kind_of, bits_of}
use Rattle.kinds.specs.declared.Kind.{Kind}
use Rattle.refusals.specs.declared.Refusal.{Refusal}
use Rattle.refusals.specs.Answers.{result_as, option_as}
use Rattle.field_table.specs.declared.Entry.{Entry}
use Rattle.field_table.specs.declared.Looked.{Looked}
use Rattle.field_table.specs.declared.Looked.TheVariants as L

-- keys of so many bytes, at most so many entries, that version; version 1 is this at 2, 2048 and 1
abbrev pub table_of : ℕ → ℕ → ℕ → T.TableFormat
table_of key_size most version = record { key_size = key_size; most = most; version = version }

-- a kind by its code, where a table's call allows it
abbrev pub allowed_as : Option Kind → Answer K.Kind
allowed_as = option_as T.bad_entry kind_of

abbrev pub checked_as : Result ℕ Refusal → Answer ℕ
checked_as = result_as (λ n. n)

abbrev pub changed_as : Result ℕ Refusal → Answer ℕ
changed_as = result_as (λ n. n)

-- what an entry declares, by its key
abbrev pub declared_as : Entry → T.Declared
declared_as e = record { key = e.field; kind = kind_of e.kind }

abbrev pub entry_as : Result Entry Refusal → Answer T.Declared
entry_as = result_as declared_as

-- what a lookup gives, with the date as it is stored
pub record Bits : Type 0 where
  pub kind : K.Kind
  pub date : K.Stored
  pub guessed : Bool

abbrev pub in_bits : Answer T.Looked → Answer Bits
in_bits a = a then λ l. Gives (record { kind = l.kind; date = T.looked_date l; guessed = l.guessed })

abbrev pub bits_in : Looked → Bits
bits_in (L.Declared k d) = record { kind = kind_of k; date = bits_of d; guessed = false }
bits_in (L.Guessed k d) = record { kind = kind_of k; date = bits_of d; guessed = true }

abbrev pub looked_as : Result Looked Refusal → Answer Bits
looked_as = result_as bits_in
