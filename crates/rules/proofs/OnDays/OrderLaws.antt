-- The order of dates is the order of (year, month, day, hour), whatever the packed word; a kind's least and greatest date bound it.
-- Assumes nothing.
use mathlib.Core.Path.{◌≡◌, refl, ◌∙◌, sym, ap}
use mathlib.Core.Bool.{Bool, true, false, cond, ◌||◌}
use Prim.Native.Nat.{ℕ, ◌+◌, ◌*◌, ◌≤◌, ◌<◌}
use native.Mathlib.Omega.{arith}
use borrow.Author.Tests.{ltb-true, ltb-false, leb-true, eqb-true, lt-ltb, le-ltb}
use lib.Dec.{leb, ltb, eqb}
use lib.IntN.{ℤ, pos, negsuc}
use lib.Signed.{le_z, lt_z}
use Rattle.sign.specs.Halves.{up, dn}
use Rattle.sign.proofs.Laws.{one_side, lt-true, lt-false, no_lt, yes_lt}
use Rattle.rules.specs.Words.{minus}
use Rattle.rules.specs.Calendar.{lengths, month_length}
use Rattle.rules.specs.Kinds.{Kind, kR, kD, kH, kU, kE, kV, Fields, days_in, hour_fits, fits_kind, of_kind, in_game_hour, packed, least_hour, greatest_hour, least, greatest}
use Rattle.rules.specs.Days.{Order, Before, Same, After, by_z, by_n, order}
use Rattle.rules.proofs.OnCalendar.CalendarLaws.{length-small}
use Rattle.rules.proofs.OnKinds.KindLaws.{Fit, fit, fit-back, low, high}

-- ---- the order of the fields

abbrev pub by_fields : Fields → Fields → Order
by_fields f g =
    by_z f.year g.year (by_n f.month g.month (by_n f.day g.day (by_n f.hour g.hour Same)))

-- numbers in the order of others
pub same-order : (a b c d : ℕ) (x : Order) → (a < b → c < d) → (b < a → d < c) → (a ≡ b → c ≡ d) → by_n c d x ≡ by_n a b x
same-order a b c d x less more equal = split (ltb a b) (ltb b a) refl refl
  where
    split : (s t : Bool) → ltb a b ≡ s → ltb b a ≡ t → by_n c d x ≡ cond s Before (cond t After x)
    split true t p q = rw (lt-ltb c d (less (ltb-true a b p)))
    split false true p q = let l = more (ltb-true b a q) in rw (le-ltb c d (omega arith), lt-ltb d c l)
    split false false p q =
        let m = ltb-false a b p in let n = ltb-false b a q in let e = equal (omega arith) in
        rw (le-ltb c d (omega arith), le-ltb d c (omega arith))

-- pairs in the order of their first numbers, then of their second
pub pair-order : (a b c d p q : ℕ) (x : Order) → (a < b → p < q) → (b < a → q < p) →
    (a ≡ b → (c < d → p < q) × (d < c → q < p) × (c ≡ d → p ≡ q)) → by_n p q x ≡ by_n a b (by_n c d x)
pair-order a b c d p q x less more equal = split (ltb a b) (ltb b a) refl refl
  where
    split : (s t : Bool) → ltb a b ≡ s → ltb b a ≡ t → by_n p q x ≡ cond s Before (cond t After (by_n c d x))
    split true t i j = rw (lt-ltb p q (less (ltb-true a b i)))
    split false true i j = let l = more (ltb-true b a j) in rw (le-ltb p q (omega arith), lt-ltb q p l)
    split false false i j =
        let m = ltb-false a b i in let n = ltb-false b a j in let e = equal (omega arith) in
        same-order c d p q x e.0 e.1 e.2

packed-order : (f g : Fields) → f.day < 32 → g.day < 32 → f.hour < 32 → g.hour < 32 →
    by_n (packed f) (packed g) Same ≡ by_n f.month g.month (by_n f.day g.day (by_n f.hour g.hour Same))
unfolding packed
packed-order f g a b c d =
    pair-order f.month g.month (f.day * 32 + f.hour) (g.day * 32 + g.hour) (packed f) (packed g) Same
    (λ l. omega arith) (λ l. omega arith) (λ e. (λ l. omega arith, λ l. omega arith, λ l. omega arith))
    ∙ ap (by_n f.month g.month)
    (pair-order f.day g.day f.hour g.hour (f.day * 32 + f.hour) (g.day * 32 + g.hour) Same
    (λ l. omega arith) (λ l. omega arith) (λ e. (λ l. omega arith, λ l. omega arith, λ l. omega arith)))

-- ---- a kind's days and hours lie between its least and its greatest

most : (k : Kind) (m : ℕ) → m ≤ 12 → days_in k m ≤ days_in k 12
unfolding month_length lengths
most kR m h = omega arith
most kD m h = length-small m h
most kH m h = length-small m h
most kU m h = omega arith
most kE m h = length-small m h
most kV m h = length-small m h

-- no month has 32 days
days-small : (k : Kind) → days_in k 12 ≤ 31
unfolding month_length lengths
days-small kR = omega arith
days-small kD = omega arith
days-small kH = omega arith
days-small kU = omega arith
days-small kE = omega arith
days-small kV = omega arith

-- one of four tests holds: the number is one of four, none above the last
one_of : (a b c d h : ℕ) → a ≤ d → b ≤ d → c ≤ d → eqb h a || eqb h b || eqb h c || eqb h d ≡ true → h ≤ d
one_of a b c d h p q r = split (eqb h a) (eqb h b) (eqb h c) (eqb h d) refl refl refl refl
  where
    split : (s t u v : Bool) → eqb h a ≡ s → eqb h b ≡ t → eqb h c ≡ u → eqb h d ≡ v → s || t || u || v ≡ true → h ≤ d
    split true t u v i j k l e = let x = eqb-true h a i in omega arith
    split false true u v i j k l e = let x = eqb-true h b j in omega arith
    split false false true v i j k l e = let x = eqb-true h c k in omega arith
    split false false false v i j k l e = let x = eqb-true h d (l ∙ e) in omega arith

pub hours-between : (k : Kind) (h : ℕ) → hour_fits k h ≡ true → (least_hour k ≤ h) × (h ≤ greatest_hour k)
hours-between kR h e = (low 0 24 h e, high 0 24 h e)
hours-between kD h e = let x = eqb-true h 0 e in omega arith
hours-between kH h e = (low 1 24 h e, high 1 24 h e)
hours-between kU h e = let x = eqb-true h 0 e in omega arith
hours-between kE h e = (low 0 22 h e, high 0 22 h e)
hours-between kV h e = let x = one_of 0 6 12 18 h (omega arith) (omega arith) (omega arith) e in omega arith

pub hours-small : (k : Kind) → greatest_hour k ≤ 24
hours-small kR = omega arith
hours-small kD = omega arith
hours-small kH = omega arith
hours-small kU = omega arith
hours-small kE = omega arith
hours-small kV = omega arith

pub day-small : (k : Kind) (f : Fields) → of_kind k f ≡ true → f.day < 32
day-small k f p =
    let t = fit k f p in let d = most k f.month t.month-high in let e = days-small k in omega arith

pub hour-small : (k : Kind) (f : Fields) → of_kind k f ≡ true → f.hour < 32
hour-small k f p = let h = hours-between k f.hour (fit k f p).hour-fits in let e = hours-small k in omega arith

-- "E's in-game hour is .. 8 to 19"
pub in-game-hours : (h : ℕ) → hour_fits kE h ≡ true → (8 ≤ in_game_hour h) × (in_game_hour h ≤ 19)
in-game-hours h e = let b = hours-between kE h e in omega arith

-- ---- the laws

-- year, then packed word, is year, month, day, hour: also for two dates of two kinds
pub order_is : (j k : Kind) (f g : Fields) → of_kind j f ≡ true → of_kind k g ≡ true → order f g ≡ by_fields f g
unfolding order
order_is j k f g p q =
    ap (by_z f.year g.year)
    (packed-order f g (day-small j f p) (day-small k g q) (hour-small j f p) (hour-small k g q))

pub least-is-date : (k : Kind) → of_kind k (least k) ≡ true
unfolding fits_kind of_kind least month_length lengths
least-is-date kR = refl
least-is-date kD = refl
least-is-date kH = refl
least-is-date kU = refl
least-is-date kE = refl
least-is-date kV = refl

pub greatest-is-date : (k : Kind) → of_kind k (greatest k) ≡ true
unfolding fits_kind of_kind greatest month_length lengths
greatest-is-date kR = refl
greatest-is-date kD = refl
greatest-is-date kH = refl
greatest-is-date kU = refl
greatest-is-date kE = refl
greatest-is-date kV = refl

-- the first is not after the second
abbrev pub not_after : Order → Bool
not_after Before = true
not_after Same = true
not_after After = false

by_n-up : (a b : ℕ) (x : Order) → a ≤ b → not_after x ≡ true → not_after (by_n a b x) ≡ true
by_n-up a b x h e = split (ltb a b)
  where
    split : (t : Bool) → not_after (cond t Before (cond (ltb b a) After x)) ≡ true
    split true = refl
    split false = rw (le-ltb b a h) e

by_z-up : (a b : ℤ) (x : Order) → up a + dn b ≤ up b + dn a → not_after x ≡ true → not_after (by_z a b x) ≡ true
by_z-up a b x h e = split (lt_z a b)
  where
    split : (t : Bool) → not_after (cond t Before (cond (lt_z b a) After x)) ≡ true
    split true = refl
    split false = rw (no_lt b a h) e

-- every date of the kind lies between its least and its greatest
pub between_ends : (k : Kind) (f : Fields) → of_kind k f ≡ true →
    (not_after (order (least k) f) ≡ true) × (not_after (order f (greatest k)) ≡ true)
unfolding least greatest
between_ends k f p =
    let t = fit k f p in
    let h = hours-between k f.hour t.hour-fits in
    let d = most k f.month t.month-high in (
      rw (order_is k k (least k) f (least-is-date k) p)
          (by_z-up (minus 32768) f.year _ (omega arith) (by_n-up 1 f.month _ (omega arith) (by_n-up 1 f.day _ (omega arith) (by_n-up (least_hour k) f.hour Same h.0 refl)))),
      rw (order_is k k f (greatest k) p (greatest-is-date k))
          (by_z-up f.year (pos 32767) _ (omega arith) (by_n-up f.month 12 _ (omega arith) (by_n-up f.day (days_in k 12) _ (omega arith) (by_n-up f.hour (greatest_hour k) Same h.1 refl)))),
    )
