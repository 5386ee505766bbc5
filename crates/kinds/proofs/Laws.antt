-- What a test of month, day and hour decides, for a year of 16 bits. Assumes nothing.
use mathlib.Core.Path.{◌≡◌, refl, sym, ap, ◌∙◌}
use mathlib.Core.Bool.{Bool, true, false, and-false}
use Prim.Native.Nat.{ℕ, ◌*◌, ◌/◌, ◌≤◌, ◌<◌}
use native.Mathlib.Omega.{arith}
use borrow.Author.Tests.{le-leb, lt-ltb, le-ltb, ltb-true, ltb-false}
use lib.Dec.{ltb}
use lib.IntN.{ℤ, pos}
use mir.Syntax.{w16}
use mir.Val.{to_z, of_z, SFits}
use mir.Facts.{to_z-of_z}
use Rattle.sign.proofs.Laws.{yes_le, one_side}
use Rattle.sign.proofs.Bits.{fits-tells}
use Rattle.rules.specs.Words.{minus, fits16}
use Rattle.rules.specs.Refusals.{Answer, Gives, Refused, demand, given, not_of_kind}
use Rattle.rules.specs.Kinds.{Kind, Fields, Stored, days_in, hour_fits, field_set_hour, from_fields, store, fits_kind, of_kind, made, mark_of, mark_allowed, unpacked, handed, of_dates}
use Rattle.rules.specs.Days.{Order, Same, by_z, by_n, order}
use Rattle.rules.proofs.OnKinds.KindLaws.{fit}
use Rattle.rules.proofs.OnDays.OrderLaws.{day-small, hour-small}
use Rattle.rules.proofs.OnKinds.PackLaws.{word-alone, handed-by, handed-tells}
use Rattle.std.specs.Prelude.{Option, Some}
use Rattle.std.specs.Int.Signed.{lt_z}
use Rattle.std.proofs.Common.{rules}
use Rattle.std.specs.Ordering.{nat_cmp, int_cmp}
use Rattle.std.specs.declared.cmp.Ordering.TheVariants.{Equal}
use Rattle.kinds.specs.declared.Packed.{Packed}
use Rattle.kinds.specs.Views.{made_as, ordered_as}

pub year-fits : (y : ℤ) → SFits w16 y → fits16 y ≡ true
year-fits y f =
    let t = fits-tells w16 y f in let o = one_side y in
    rw (yes_le (minus 32768) y (omega arith), yes_le y (pos 32767) (omega arith))

-- bounds, so that the word fits
pub small : (k : Kind) (m d h : ℕ) → fits_kind k m d h ≡ true → (m ≤ 12) × (d < 32) × (h < 32)
unfolding of_kind
small k m d h e =
    let f : Fields = record { year = pos 0; month = m; day = d; hour = h } in
    ((fit k f e).month-high, day-small k f e, hour-small k f e)

-- where month and day are of the kind, the hour decides
pub fits-day : (k : Kind) (m d h : ℕ) {t : Bool} → (1 ≤ m) × (m ≤ 12) × (1 ≤ d) × (d ≤ days_in k m) → hour_fits k h ≡ t → fits_kind k m d h ≡ t
unfolding fits_kind
fits-day k m d h p e = rw (le-leb 1 m p.0, le-leb m 12 p.1, le-leb 1 d p.2, le-leb d (days_in k m) p.3, e)

-- what the maker gives, by the test
pub made-is : (k : Kind) (n : ℕ) (f : Fields) {t : Bool} → SFits w16 f.year → fits_kind k f.month f.day f.hour ≡ t →
    made k n f ≡ demand t n (Gives f)
unfolding made of_kind
made-is k n f y e = rw (year-fits f.year y, e)

-- ---- a date handed in, by the opener's two tests

module _ (k : Kind) (d : Stored) where
  pub mark-refused : mark_allowed (mark_of d.word) ≡ false → handed k d ≡ Refused not_of_kind
  unfolding handed
  mark-refused e = rw e

  module _ (allowed : mark_allowed (mark_of d.word) ≡ true) {f : Fields} (is : f ≡ unpacked d) where
    pub handed-is : SFits w16 f.year → fits_kind k f.month f.day f.hour ≡ true → handed k d ≡ Gives f
    unfolding handed made of_kind
    handed-is y e =
        let fits : of_kind k f ≡ true = rw (year-fits f.year y, e) in
        rw (allowed, sym (ap (of_kind k) is) ∙ fits) (ap Gives (sym is))

    -- fields that do not fit are refused, whatever the year
    pub handed-not : fits_kind k f.month f.day f.hour ≡ false → handed k d ≡ Refused not_of_kind
    unfolding handed made of_kind
    handed-not e =
        let fits : of_kind k f ≡ false = rw (e, and-false (fits16 f.year)) in
        rw (allowed, sym (ap (of_kind k) is) ∙ fits)

  -- and its fields are small, so that the word of them fits
  pub handed-small : (f : Fields) → handed k d ≡ Gives f → (f.month < 16) × (f.day < 32) × (f.hour < 32)
  handed-small f e =
      let p = (handed-tells k d f e).of-kind in
      (omega (arith, (fit k f p).month-high), day-small k f p, hour-small k f p)

-- ---- two dates handed in, in order

module _ (k : Kind) (d e : Stored) where
  abbrev pub compared : Answer Order
  compared = of_dates k d e (λ f g. Gives (order f g))

  pub in_order : given (handed k d) ≡ true → given (handed k e) ≡ true → compared ≡ Gives (order (unpacked d) (unpacked e))
  in_order p q = rw (handed-by k d p, handed-by k e q)

-- the order by the years and by the words without their marks
pub order-words : (d e : Stored) → order (unpacked d) (unpacked e) ≡ by_z d.year e.year (by_n (d.word / 4) (e.word / 4) Same)
unfolding order
order-words d e =
    rw (word-alone d, word-alone e, four-less (d.word / 4) (e.word / 4), four-less (e.word / 4) (d.word / 4))
  where
    four-less : (a b : ℕ) → ltb (a * 4) (b * 4) ≡ ltb a b
    four-less a b = split (ltb a b) refl
      where
        split : (t : Bool) → ltb a b ≡ t → ltb (a * 4) (b * 4) ≡ t
        split true p = let h = ltb-true a b p in lt-ltb (a * 4) (b * 4) (omega arith)
        split false p = let h = ltb-false a b p in le-ltb (a * 4) (b * 4) (omega arith)

-- the order by the library's comparison: by the years, where they differ, and else by the words
module _ (a b : ℤ) (next : Order) where
  pub unequal-years : (int_cmp a b ≡ Equal → ⊥) → ordered_as (Some (int_cmp a b)) ≡ Gives (by_z a b next)
  unequal-years differ = split (lt_z a b) (lt_z b a) refl refl
    where
      split : (s t : Bool) → lt_z a b ≡ s → lt_z b a ≡ t → ordered_as (Some (int_cmp a b)) ≡ Gives (by_z a b next)
      split true t p q = rw p
      split false true p q = rw (p, q)
      split false false p q = absurd (differ (rw (p, q)))

  pub equal-years : int_cmp a b ≡ Equal → by_z a b next ≡ next
  equal-years same = split (lt_z a b) (lt_z b a) refl refl
    where
      split : (s t : Bool) → lt_z a b ≡ s → lt_z b a ≡ t → by_z a b next ≡ next
      split true t p q = search (rules, rw p at same)
      split false true p q = search (rules, rw (p, q) at same)
      split false false p q = rw (p, q)

pub by-words : (v w : ℕ) → ordered_as (Some (nat_cmp v w)) ≡ Gives (by_n v w Same)
by-words v w = grind arith

-- ---- a kind's answer, from the maker's: the year comes to it as 16 bits, the hour is the one that the kind's field sets have

pub made-answers : (k : Kind) (f : Fields) {date r : Option Packed} → field_set_hour k f.hour ≡ f.hour → SFits w16 f.year →
    ((n : ℕ) → made_as n date ≡ store (made k n (record { year = to_z w16 (of_z w16 f.year); month = f.month; day = f.day; hour = f.hour }))) →
    date ≡ r → made_as not_of_kind r ≡ store (from_fields k f)
unfolding from_fields
made-answers k f set fits is same = rw set (ap (made_as not_of_kind) (sym same) ∙ (rw (to_z-of_z fits) at (is not_of_kind)))
