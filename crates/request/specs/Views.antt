-- The answers of the code, as those of `rules`. Assumes nothing.
use Rattle.std.specs.Prelude.{ℕ, Bool, true, Option, Some, None, Result, Ok, Err, List, ℤ, drop}
use Rattle.rules.specs.Refusals.{Answer, Gives, Refused, not_text, unreadable_line}
use Rattle.rules.specs.Kinds as K
use Rattle.rules.specs.Listing as L
use Rattle.refusals.specs.declared.Refusal.{Refusal}
use Rattle.refusals.specs.Numbers.{number_of}
use Rattle.refusals.specs.Answers.{result_as}
use Rattle.kinds.specs.declared.Packed.{Packed}
use Rattle.kinds.specs.Views.{kind_of, bits_of}
use Rattle.request.specs.declared.Way.{Way}
use Rattle.request.specs.declared.Way.TheVariants as W
use Rattle.request.specs.declared.Request.{Request}

-- ---- a line read

abbrev pub way_of : Way → L.Way
way_of W.Text = L.by_text
way_of W.Number = L.by_number
way_of W.Guess = L.by_guess

abbrev pub way_as : Option Way → Answer L.Way
way_as (Some w) = Gives (way_of w)
way_as None = Refused unreadable_line

-- what the line s asks for
abbrev pub request_as : List ℕ → Option Request → Answer L.Line
request_as s (Some r) = Gives (record { kind = kind_of r.kind; way = way_of r.way; rest = drop 4 s })
request_as s None = Refused unreadable_line

-- for the callers: the kind that is asked for has that way, and the rest starts within the line
abbrev pub has_way_in : Option Request → Bool
has_way_in (Some r) = L.has_way (kind_of r.kind) (way_of r.way)
has_way_in None = true

abbrev pub rest_at : Option Request → ℕ
rest_at (Some r) = 4
rest_at None = 0

-- ---- its number, and its date

-- #106: "Guess readers set 1, all others 0"
abbrev pub mark_by : L.Way → ℕ
mark_by L.by_text = K.no_mark
mark_by L.by_number = K.no_mark
mark_by L.by_guess = K.guessed_mark

abbrev pub numeral_as : Option ℤ → Answer ℤ
numeral_as (Some n) = Gives n
numeral_as None = Refused not_text

abbrev pub asked_as : Result Packed Refusal → Answer K.Stored
asked_as r = result_as bits_of r

-- for the callers: the refusal's number
abbrev pub refusal_in : Result Packed Refusal → ℕ
refusal_in (Ok p) = 0
refusal_in (Err e) = number_of e
