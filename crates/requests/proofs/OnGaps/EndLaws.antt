-- The earliest and the latest date of some are among them, and none is earlier or later. Once, over the order; "year, then packed word" is
-- such an order, either way round. Assumes nothing.
use mathlib.Core.Path.{◌≡◌, refl, ap, sym, subst}
use mathlib.Core.Bool.{Bool, true, false, cond}
use mathlib.Core.List.{List, [], ◌∷◌}
use Prim.Native.Nat.{◌+◌, ◌≤◌}
use native.Mathlib.Omega.{arith}
use borrow.Author.Tests.{ltb-true, ltb-false}
use lib.Dec.{ltb}
use lib.Signed.{lt_z}
use Rattle.sign.specs.Halves.{up, dn}
use Rattle.sign.proofs.Laws.{lt-true, lt-false}
use Rattle.rules.specs.Kinds.{Fields, packed}
use Rattle.rules.specs.Days.{Order, Before, Same, After, order}
use Rattle.rules.proofs.OnDays.OrderLaws.{not_after}
use Rattle.requests.specs.Gaps.{chosen, earlier, later, earliest, latest}
use Rattle.requests.proofs.OnEntries.KeepLaws.{either}
use Rattle.requests.proofs.OnEntries.EachLaws.{Each}

-- ---- the first of some by an order

module _ (by : Fields → Fields → Order) where
  -- of f and those after it
  unfoldable first_by : Fields → List Fields → Fields
  first_by f [] = f
  first_by f (g ∷ gs) = first_by (chosen (by f g) f g) gs

  -- it has what each of them has: it is one of them
  first-has : (P : Fields → Type 0) (f : Fields) (fs : List Fields) → P f → Each P fs → P (first_by f fs)
  unfolding first_by
  first-has P f [] p h = p
  first-has P f (g ∷ gs) p h = first-has P (chosen (by f g) f g) gs (one (by f g)) h.1
    where
      one : (o : Order) → P (chosen o f g)
      one Before = p
      one Same = p
      one After = h.0

  -- one date is not after another
  abbrev UpTo : Fields → Fields → Type 0
  UpTo f g = not_after (by f g) ≡ true

  module _
      (through : (f g h : Fields) → UpTo f g → UpTo g h → UpTo f h)
      (turned : (f g : Fields) → not_after (by f g) ≡ false → UpTo g f)
    where
      itself : (f : Fields) → UpTo f f
      itself f = either (not_after (by f f)) (λ e. e) (λ e. turned f f e)

      -- none of them is before it
      first-none : (f : Fields) (fs : List Fields) → Each (UpTo (first_by f fs)) (f ∷ fs)
      unfolding first_by
      first-none f [] = (itself f, tt)
      first-none f (g ∷ gs) =
          let c = chosen (by f g) f g in
          let rest = first-none c gs in
          let two = of_two (by f g) refl in
          (through _ c f rest.0 two.0, (through _ c g rest.0 two.1, rest.1))
        where
          of_two : (o : Order) → by f g ≡ o → UpTo (chosen o f g) f × UpTo (chosen o f g) g
          of_two Before e = (itself f, ap not_after e)
          of_two Same e = (itself f, ap not_after e)
          of_two After e = (turned f g (ap not_after e), itself g)

-- ---- the order of dates

-- the first's year is not after the second's, and within one year neither is its word
record NotLater (f g : Fields) : Type 0 where
  years : up f.year + dn g.year ≤ up g.year + dn f.year
  words : up g.year + dn f.year ≤ up f.year + dn g.year → packed f ≤ packed g

module _ (f g : Fields) where
  -- what the test says of them, either way
  abbrev Told : Bool → Type 0
  Told true = NotLater f g
  Told false = NotLater g f × (NotLater f g → ⊥)

  order-tells : Told (not_after (order f g))
  unfolding order
  order-tells = split (lt_z f.year g.year) (lt_z g.year f.year) (ltb (packed f) (packed g)) (ltb (packed g) (packed f)) refl refl refl refl
    where
      split : (s t u v : Bool) → lt_z f.year g.year ≡ s → lt_z g.year f.year ≡ t →
          ltb (packed f) (packed g) ≡ u → ltb (packed g) (packed f) ≡ v →
          Told (not_after (cond s Before (cond t After (cond u Before (cond v After Same)))))
      split true t u v p q r x = let l = lt-true f.year g.year p in record { years = omega arith; words = λ h. absurd (omega arith) }
      split false true u v p q r x =
          let l = lt-true g.year f.year q in
          (record { years = omega arith; words = λ h. absurd (omega arith) }, λ n. let y = n.years in omega arith)
      split false false true v p q r x =
          let l = lt-false f.year g.year p in let m = lt-false g.year f.year q in let w = ltb-true (packed f) (packed g) r in
          record { years = omega arith; words = λ h. omega arith }
      split false false false true p q r x =
          let l = lt-false f.year g.year p in let m = lt-false g.year f.year q in let w = ltb-true (packed g) (packed f) x in
          (record { years = omega arith; words = λ h. omega arith }, λ n. let z = n.words l in omega arith)
      split false false false false p q r x =
          let l = lt-false f.year g.year p in let m = lt-false g.year f.year q in let w = ltb-false (packed g) (packed f) x in
          record { years = omega arith; words = λ h. omega arith }

  not-later : not_after (order f g) ≡ true → NotLater f g
  not-later e = subst Told e order-tells

  not_after_lem : NotLater f g → not_after (order f g) ≡ true
  not_after_lem n = either (not_after (order f g)) (λ e. e) (λ e. absurd ((subst Told e order-tells).1 n))

-- of two dates one is not after the other
pub order-turned : (f g : Fields) → not_after (order f g) ≡ false → not_after (order g f) ≡ true
order-turned f g e = not_after_lem g f (subst (Told f g) e (order-tells f g)).0

pub order-through : (f g h : Fields) → not_after (order f g) ≡ true → not_after (order g h) ≡ true → not_after (order f h) ≡ true
order-through f g h p q =
    let a = not-later f g p in let b = not-later g h q in let y = a.years in let z = b.years in
    not_after_lem f h (record { years = omega arith; words = λ e. let v = a.words (omega arith) in let w = b.words (omega arith) in omega arith })

-- ---- the earliest and the latest

earliest-is : (f : Fields) (fs : List Fields) → earliest f fs ≡ first_by order f fs
unfolding earliest earlier first_by
earliest-is f [] = refl
earliest-is f (g ∷ gs) = earliest-is (chosen (order f g) f g) gs

latest-is : (f : Fields) (fs : List Fields) → latest f fs ≡ first_by (λ g h. order h g) f fs
unfolding latest later first_by
latest-is f [] = refl
latest-is f (g ∷ gs) = latest-is (chosen (order g f) f g) gs

pub earliest-has : (P : Fields → Type 0) (f : Fields) (fs : List Fields) → P f → Each P fs → P (earliest f fs)
earliest-has P f fs p h = rw (earliest-is f fs) (first-has order P f fs p h)

pub latest-has : (P : Fields → Type 0) (f : Fields) (fs : List Fields) → P f → Each P fs → P (latest f fs)
latest-has P f fs p h = rw (latest-is f fs) (first-has (λ g h. order h g) P f fs p h)

pub none-earlier : (f : Fields) (fs : List Fields) → Each (λ g. not_after (order (earliest f fs) g) ≡ true) (f ∷ fs)
none-earlier f fs =
    subst (λ (m : Fields). Each (λ g. not_after (order m g) ≡ true) (f ∷ fs)) (sym (earliest-is f fs))
    (first-none order order-through order-turned f fs)

pub none-later : (f : Fields) (fs : List Fields) → Each (λ g. not_after (order g (latest f fs)) ≡ true) (f ∷ fs)
none-later f fs =
    subst (λ (m : Fields). Each (λ g. not_after (order g m) ≡ true) (f ∷ fs)) (sym (latest-is f fs))
    (first-none (λ g h. order h g) (λ a b c p q. order-through c b a q p) (λ a b e. order-turned b a e) f fs)
