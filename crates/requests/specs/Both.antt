-- Document 02, #107: "A call that takes both versions". Assumes nothing.
use Rattle.std.specs.Prelude.{ℕ, cond, List, eqb}
use Rattle.rules.specs.Refusals.{Answer, Gives, ◌then◌}
use Rattle.rules.specs.Kinds.{stored}
use Rattle.rules.specs.Book.{Format, version_of, Entry, version1}
use Rattle.requests.specs.Second.{FieldEntry, no_field, version2}

-- a record of version 1 has no field number, and its date no mark
abbrev pub fieldless : Entry → FieldEntry
fieldless e = record { kind = e.kind; field = no_field; date = stored e.date }

-- an answer, told otherwise
abbrev pub retold : {A B : Type 0} → (A → B) → Answer A → Answer B
retold f x = x then λ a. Gives (f a)

-- the same format, its entries told otherwise
abbrev pub retold_by : {A B : Type 0} → (A → B) → Format A → Format B
retold_by f format = record { frame = format.frame; entry = λ r. retold f (format.entry r) }

-- version 1, its records told as those of version 2
abbrev pub version1_told : Format FieldEntry
version1_told = retold_by fieldless version1

-- "uses the length limit of its version byte, version 1's for any other byte": the format by the version byte
unfoldable pub format_by : ℕ → Format FieldEntry
format_by version = cond (eqb version version2.frame.version) version2 version1_told

-- the format of whatever the buffer holds; each operation is the format's own
abbrev pub both : List ℕ → Format FieldEntry
both s = format_by (version_of s)
