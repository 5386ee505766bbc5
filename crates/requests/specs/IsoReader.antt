-- Document 02, #102: "Read the ISO text of all six kinds, only in the spelling that document 01 writes." Assumes nothing.
use Rattle.std.specs.Prelude.{ℕ, ◌+◌, ◌-◌, ◌*◌, ◌/◌, ◌%◌, ◌≡◌, Bool, true, ◌&&◌, List, [], ◌∷◌, leb, eqb, ℤ, length, drop}
use Rattle.rules.specs.Words.{same_bytes}
use Rattle.rules.specs.Refusals.{Answer, Gives, ◌then◌, demand, too_long, not_text}
use Rattle.rules.specs.Kinds.{Kind, kR, kD, kH, kU, kE, kV, Fields, with_hour, of_kind, settled}
use Rattle.rules.specs.Text.{leading, one_or_two, text_limit}
use Rattle.rules.specs.Spelling.{iso}

-- ---- "One statement over all kinds": what a text has to be

-- "E comes back with the even component of that in-game hour"
abbrev pub even_hour : Kind → ℕ → Bool
even_hour kR h = true
even_hour kD h = true
even_hour kH h = true
even_hour kU h = true
even_hour kE h = eqb (h % 2) 0
even_hour kV h = true

-- a date that its ISO text gives back as it is
unfoldable pub comes_back : Kind → Fields → Bool
comes_back k f = of_kind k f && even_hour k f.hour

-- the text is the one that document 01 writes of this date. The reader gives f exactly where this holds: law `IsoLaws.iso-law`
abbrev pub Names : Kind → List ℕ → Fields → Type 0
Names k s f = (comes_back k f ≡ true) × (s ≡ iso k f)

-- ---- the one date that a text could name: its numbers, one after the other. Between two of them stands one byte, which is not looked at
-- here: the whole text is compared below

-- the hour of the date by the hour in its text: R and H write hour - 1, V its hour, E its in-game hour, of which this is the even component
abbrev pub named_hour : Kind → ℕ → ℕ
named_hour kR h = h + 1
named_hour kD h = h
named_hour kH h = h + 1
named_hour kU h = h
named_hour kE h = (h - 8) * 2
named_hour kV h = h

-- the hour after the day: 0 where nothing follows
unfoldable pub iso_hour_after : Kind → List ℕ → Answer ℕ
iso_hour_after k [] = Gives 0
iso_hour_after k (b ∷ s) = one_or_two s then λ hour. Gives (named_hour k hour.value)

-- month, day and perhaps hour, as fields of this year
unfoldable pub iso_part : Kind → ℤ → List ℕ → Answer Fields
iso_part k year s =
    one_or_two (drop 1 s) then λ month.
    one_or_two (drop 1 month.rest) then λ day.
    iso_hour_after k day.rest then λ hour.
    Gives (record { year = year; month = month.value; day = day.value; hour = hour })

-- ---- the reader

-- "only in the spelling that document 01 writes"
unfoldable pub spelled_so : Kind → List ℕ → Fields → Answer Fields
spelled_so k s f = demand (same_bytes s (iso k f)) not_text (Gives f)

-- the date that the text names. `settled`, as of every text; here it changes no hour, for E's are even
unfoldable pub named : Kind → List ℕ → Answer Fields
named k s =
    leading s then λ r. iso_part k r.value r.rest then λ f. settled k not_text f then spelled_so k s

-- "Refusals: 1 and 2 as for dotted text"
unfoldable pub read_iso : Kind → List ℕ → Answer Fields
read_iso k s = demand (leb (length s) text_limit) too_long (named k s)

-- ---- the way back

-- "R, D, H, U and V come back as the same date. E comes back with the even component of that in-game hour, so component 3 comes back as 2"
abbrev pub evened : Kind → ℕ → ℕ
evened kR h = h
evened kD h = h
evened kH h = h
evened kU h = h
evened kE h = h / 2 * 2
evened kV h = h

-- the date that the ISO text of a date gives
unfoldable pub iso_back : Kind → Fields → Fields
iso_back k f = with_hour f (evened k f.hour)
