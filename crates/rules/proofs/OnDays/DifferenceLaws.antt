-- Demand 3: the difference's sign is the order, reversed for two dates within one year before 0. Assumes nothing.
use mathlib.Core.Path.{◌≡◌, refl, ◌∙◌, sym, ap, subst}
use mathlib.Core.Bool.{Bool, true, false, cond, ◌&&◌}
use Prim.Native.Nat.{ℕ, zero, suc, ◌+◌, ◌-◌, ◌*◌, ◌≤◌, ◌<◌}
use native.Mathlib.Omega.{arith}
use borrow.Author.Tests.{eqb-true, ltb-true, ltb-false, leb-true, leb-false, lt-ltb, le-ltb}
use lib.Dec.{T, leb, ltb}
use lib.IntN.{ℤ, pos, negsuc, ◌+ℤ◌, ◌-ℤ◌, ◌*ℤ◌}
use lib.Signed.{lt_z, le_z}
use Rattle.sign.specs.Halves.{up, dn}
use Rattle.sign.proofs.Laws.{same, ints, one_side, yes_lt, no_lt}
use Rattle.rules.specs.Words.{eq_z}
use Rattle.rules.specs.Refusals.{Answer, Gives, ◌then◌, demand}
use Rattle.rules.specs.Calendar.{month_length, first_day, day_of_year}
use Rattle.rules.specs.Kinds.{Kind, kR, kD, kH, kU, kE, kV, Fields, with_hour, hour_fits, fits_kind, of_kind}
use Rattle.rules.specs.Days.{day_number_at, day_number, counts_days, difference, Order, Before, Same, After, by_z, by_n, order}
use Rattle.rules.proofs.OnCalendar.CalendarLaws.{months-follow, day-of-year-small}
use Rattle.rules.proofs.OnKinds.KindLaws.{fit, month-fits, with-hour}
use Rattle.rules.proofs.OnDays.OrderLaws.{by_fields, pair-order, order_is}
use Rattle.rules.proofs.OnDays.CountLaws.{sign_order, sign-is}
use Rattle.rules.proofs.OnDays.DayLaws.{counter}

abbrev pub reversed : Order → Order
reversed Before = After
reversed Same = Same
reversed After = Before

-- ---- day numbers in the order of year and day of year

reverse-by_n : (a b : ℕ) → reversed (by_n a b Same) ≡ by_n b a Same
reverse-by_n a b = split (ltb a b) (ltb b a) refl refl
  where
    split : (s t : Bool) → ltb a b ≡ s → ltb b a ≡ t → reversed (cond s Before (cond t After Same)) ≡ cond t Before (cond s After Same)
    split true true p q = let l = ltb-true a b p in let m = ltb-true b a q in absurd (omega arith)
    split true false p q = refl
    split false true p q = refl
    split false false p q = refl

-- one year, before 0
abbrev pub same_year_before : Fields → Fields → Bool
same_year_before f g = lt_z f.year (pos 0) && eq_z f.year g.year

-- the order, reversed where the test holds
abbrev turned : Bool → Order → Order
turned t o = cond t (reversed o) o

above : (n d : ℕ) → day_number_at (pos n) d ≡ pos (n * 365 + d)
above n d = rw (no_lt (pos n) (pos 0) (omega arith)) (ap pos (omega arith))

below : (n d : ℕ) → day_number_at (negsuc n) d ≡ negsuc (n * 365 + 364 + d)
below n d = same _ _ (simp ints (omega arith))

year-order : (n m c d : ℕ) → c < 365 → d < 365 → by_n (n * 365 + c) (m * 365 + d) Same ≡ by_n n m (by_n c d Same)
year-order n m c d p q =
    pair-order n m c d (n * 365 + c) (m * 365 + d) Same
    (λ l. omega arith) (λ l. omega arith) (λ e. (λ l. omega arith, λ l. omega arith, λ l. omega arith))

numbers-order : (y z : ℤ) (c d : ℕ) → c < 365 → d < 365 →
    by_z (day_number_at y c) (day_number_at z d) Same ≡ turned (lt_z y (pos 0) && eq_z y z) (by_z y z (by_n c d Same))
numbers-order (pos n) (pos m) c d p q = rw (above n c, above m d, no_lt (pos n) (pos 0) (omega arith)) (year-order n m c d p q)
numbers-order (pos n) (negsuc m) c d p q = rw (above n c, below m d, no_lt (pos n) (pos 0) (omega arith))
numbers-order (negsuc n) (pos m) c d p q = rw (below n c, above m d)
numbers-order (negsuc n) (negsuc m) c d p q =
    rw (below n c, below m d)
    (
    pair-order m n d c (m * 365 + 364 + d) (n * 365 + 364 + c) Same
    (λ l. omega arith) (λ l. omega arith) (λ e. (λ l. omega arith, λ l. omega arith, λ l. omega arith))
    ∙ split (leb m n) (leb n m) refl refl
    )
  where
    -- a later year's number is greater; within one year the days run backward
    split : (s t : Bool) → leb m n ≡ s → leb n m ≡ t → by_n m n (by_n d c Same) ≡ turned (s && t) (by_n m n (by_n c d Same))
    split true true i j =
        let l = leb-true m n i in let r = leb-true n m j in
        rw (le-ltb m n r, le-ltb n m l) (sym (reverse-by_n c d))
    split true false i j = let r = leb-false n m j in rw (lt-ltb m n r)
    split false t i j = let l = leb-false m n i in rw (le-ltb m n (omega arith), lt-ltb n m l)

-- ---- the law

-- the day of year is in the order of month and day, whatever follows
pub days-order : (m n c d : ℕ) (x : Order) → m ≤ 12 → n ≤ 12 → 1 ≤ c → 1 ≤ d → c ≤ month_length m → d ≤ month_length n →
    by_n (day_of_year m c) (day_of_year n d) x ≡ by_n m n (by_n c d x)
unfolding day_of_year
days-order m n c d x p q r s t u =
    pair-order m n c d (day_of_year m c) (day_of_year n d) x
    (λ l. let f = months-follow m n l q in omega arith)
    (λ l. let f = months-follow n m l p in omega arith)
    (λ e. let f = ap first_day e in (λ l. omega arith, λ l. omega arith, λ l. omega arith))

-- the start of a date's day is a date of its kind
start-is-date : (k : Kind) → counts_days k ≡ true → (f : Fields) → of_kind k f ≡ true → of_kind k (with_hour f 0) ≡ true
start-is-date k c f p = with-hour k f 0 p (zero-fits k c)
  where
    zero-fits : (k : Kind) → counts_days k ≡ true → hour_fits k 0 ≡ true
    zero-fits kR c = refl
    zero-fits kD c = refl
    zero-fits kH c = absurd (subst T (sym c) tt)
    zero-fits kU c = refl
    zero-fits kE c = refl
    zero-fits kV c = refl

-- the difference's sign is the order of the two days, reversed within one year before 0
pub difference-sign : (k : Kind) → counts_days k ≡ true → (f g : Fields) → of_kind k f ≡ true → of_kind k g ≡ true →
    (difference k f g then λ n. Gives (sign_order n))
    ≡ Gives (cond (same_year_before f g) (reversed (order (with_hour f 0) (with_hour g 0))) (order (with_hour f 0) (with_hour g 0)))
unfolding difference day_number
difference-sign k c f g p q =
    let t = fit k f p in let u = fit k g q in
    let a = month-fits k (counter k c) f p in let b = month-fits k (counter k c) g q in
    let l = day-of-year-small f.month f.day t.month-high t.day-low a in
    let r = day-of-year-small g.month g.day u.month-high u.day-low b in
    rw (
      c,
      sign-is (day_number f) (day_number g),
      numbers-order f.year g.year (day_of_year f.month f.day) (day_of_year g.month g.day) l r,
      days-order f.month g.month f.day g.day Same t.month-high u.month-high t.day-low u.day-low a b,
      order_is k k (with_hour f 0) (with_hour g 0) (start-is-date k c f p) (start-is-date k c g q),
    )

-- for D, the order of the two dates
pub difference-sign-D : (f g : Fields) → of_kind kD f ≡ true → of_kind kD g ≡ true →
    (difference kD f g then λ n. Gives (sign_order n)) ≡ Gives (cond (same_year_before f g) (reversed (order f g)) (order f g))
difference-sign-D f g p q =
    let e = eqb-true f.hour 0 (fit kD f p).hour-fits in
    let d = eqb-true g.hour 0 (fit kD g q).hour-fits in
    difference-sign kD refl f g p q
    ∙ (λ i. Gives (cond (same_year_before f g) (reversed (order (with_hour f (sym e i)) (with_hour g (sym d i)))) (order (with_hour f (sym e i)) (with_hour g (sym d i)))))
