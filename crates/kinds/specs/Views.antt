-- The code's types as those of `rules`. Assumes nothing.
use Rattle.std.specs.Prelude.{ℕ, Option, Some, None}
use Rattle.std.specs.declared.cmp.Ordering.{Ordering}
use Rattle.std.specs.declared.cmp.Ordering.TheVariants.{Less, Equal, Greater}
use Rattle.rules.specs.Refusals.{Answer, Gives, Refused, not_of_kind}
use Rattle.rules.specs.Kinds as K
use Rattle.rules.specs.Days as D
use Rattle.kinds.specs.declared.Kind.{Kind}
use Rattle.kinds.specs.declared.Kind.TheVariants as C
use Rattle.kinds.specs.declared.ExpandedRawDate.{ExpandedRawDate}
use Rattle.kinds.specs.declared.Packed.{Packed}

abbrev pub kind_of : Kind → K.Kind
kind_of C.Raw = K.kR
kind_of C.Date = K.kD
kind_of C.Hour = K.kH
kind_of C.Uniform = K.kU
kind_of C.Eu5 = K.kE
kind_of C.Vic3 = K.kV

abbrev pub fields_of : ExpandedRawDate → K.Fields
fields_of e = record { year = e.year; month = e.month; day = e.day; hour = e.hour }

-- the bits of a date
abbrev pub bits_of : Packed → K.Stored
bits_of p = record { year = p.year; word = p.word }

-- a date made, or the refusal n
abbrev pub made_as : ℕ → Option Packed → Answer K.Stored
made_as n (Some p) = Gives (bits_of p)
made_as n None = Refused n

abbrev pub opened_as : Option ExpandedRawDate → Answer K.Fields
opened_as (Some e) = Gives (fields_of e)
opened_as None = Refused not_of_kind

abbrev pub ordered_as : Option Ordering → Answer D.Order
ordered_as (Some Less) = Gives D.Before
ordered_as (Some Equal) = Gives D.Same
ordered_as (Some Greater) = Gives D.After
ordered_as None = Refused not_of_kind
