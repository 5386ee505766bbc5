-- Each answer is determined: two that a contract allows are equal, since the view that the contract names can be read back.
-- Assumes nothing.
use mathlib.Core.Path.{◌≡◌, refl}
use Prim.Native.Nat.{ℕ}
use Rattle.std.specs.Prelude.{Option, Some, None}
use Rattle.std.specs.declared.cmp.Ordering.{Ordering}
use Rattle.std.specs.declared.cmp.Ordering.TheVariants.{Less, Equal, Greater}
use Rattle.rules.specs.Kinds.{Fields, Stored}
use Rattle.rules.specs.Kinds as K
use Rattle.rules.specs.Days as D
use Rattle.rules.specs.Refusals.{Answer, not_of_kind}
use Rattle.rules.proofs.OnRefusals.Determined.{Determines, DeterminesEach, determined, determined-at, back_one}
use Rattle.kinds.specs.declared.Kind.{Kind}
use Rattle.kinds.specs.declared.Kind.TheVariants as C
use Rattle.kinds.specs.declared.ExpandedRawDate.{ExpandedRawDate}
use Rattle.kinds.specs.declared.Packed.{Packed}
use Rattle.kinds.specs.Views.{kind_of, made_as, opened_as, ordered_as}

-- the code's structs of what `rules` has: the way back of `bits_of` and `fields_of`
abbrev pub packed_of : Stored → Packed
packed_of d = record { year = d.year; word = d.word }

abbrev pub expanded_of : Fields → ExpandedRawDate
expanded_of f = record { year = f.year; month = f.month; day = f.day; hour = f.hour }

-- the kinds, back too
abbrev pub kind_back : K.Kind → Kind
kind_back K.kR = C.Raw
kind_back K.kD = C.Date
kind_back K.kH = C.Hour
kind_back K.kU = C.Uniform
kind_back K.kE = C.Eu5
kind_back K.kV = C.Vic3

pub kind-back : (k : Kind) → kind_back (kind_of k) ≡ k
kind-back k = elim k as (λ (k : Kind). kind_back (kind_of k) ≡ k) [ C.Raw ↦ refl | C.Date ↦ refl | C.Hour ↦ refl | C.Uniform ↦ refl | C.Eu5 ↦ refl | C.Vic3 ↦ refl ]

pub answer-determined : (n : ℕ) → Determines (made_as n)
answer-determined n = determined (made_as n) (back_one (λ d. Some (packed_of d)) None) (λ r. elim r as (λ k. (back_one (λ d. Some (packed_of d)) None) ((made_as n) k) ≡ k) [ Some d ↦ refl | None ↦ refl ])

pub answers-determined : DeterminesEach made_as
answers-determined = determined-at made_as not_of_kind (answer-determined not_of_kind)

pub opened-determined : Determines opened_as
opened-determined = determined opened_as (back_one (λ f. Some (expanded_of f)) None)
    (λ r. elim r as (λ k. (back_one (λ f. Some (expanded_of f)) None) (opened_as k) ≡ k) [ Some f ↦ refl | None ↦ refl ])

abbrev order_back : D.Order → Option Ordering
order_back D.Before = Some Less
order_back D.Same = Some Equal
order_back D.After = Some Greater

abbrev ordered_back : Answer D.Order → Option Ordering
ordered_back = back_one order_back None

ordered-back : (r : Option Ordering) → ordered_back (ordered_as r) ≡ r
ordered-back (Some Less) = refl
ordered-back (Some Equal) = refl
ordered-back (Some Greater) = refl
ordered-back None = refl

pub ordered-determined : Determines ordered_as
ordered-determined = determined ordered_as ordered_back ordered-back
