-- The code's types as those of the definitions. Assumes nothing.
use Rattle.std.specs.Prelude.{◌≡◌, true, false, eqb}
use Rattle.rules.specs.Refusals.{Answer, Gives, Refused, RefusedAt, given}
use Rattle.rules.specs.Kinds as K
use Rattle.rules.specs.Days.{Order, Same}
use Rattle.kinds.specs.Views.{bits_of}
use Rattle.requests.specs.Gaps as G
use Rattle.gap_report.specs.Walk.{Tallied, number_at}
use Rattle.gap_report.specs.declared.tally.Step.{Step}
use Rattle.gap_report.specs.declared.tally.Tally.{Tally}

-- the order of two dates, Same where they were refused
abbrev pub or_same : Answer Order → Order
or_same (Gives o) = o
or_same (Refused n) = Same
or_same (RefusedAt n place) = Same

abbrev pub step_as : Step → G.Step
step_as s = record { long = s.long; place = s.place }

abbrev pub tallied_as : Tally → Tallied
tallied_as t = record {
  count = t.count;
  earliest = K.unpacked (bits_of t.earliest);
  latest = K.unpacked (bits_of t.latest);
  first = number_at t.first;
  last = record { place = t.at; number = number_at t.last };
  longest = record { long = t.step; place = t.place };
}

-- a date that is one of two: of each kind that both are of
abbrev pub OneOf : K.Stored → K.Stored → K.Stored → Type 0
OneOf f g d = (k : K.Kind) → given (K.handed k f) ≡ true → given (K.handed k g) ≡ true → given (K.handed k d) ≡ true

-- the dates told of are of the kind, where there are any
abbrev pub Dated : K.Kind → Tally → Type 0
Dated k t = eqb t.count 0 ≡ false → (given (K.handed k (bits_of t.earliest)) ≡ true) × (given (K.handed k (bits_of t.latest)) ≡ true)
