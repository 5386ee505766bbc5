-- #111: "Adding the difference reaches the other; additions compose ..; the sign is the order for all pairs." Each once over the length
-- of a block. Days have these laws with exceptions (`AddLaws`, `DifferenceLaws` of `rules`); here there is none. Assumes nothing.
use mathlib.Core.Path.{◌≡◌, refl, sym, subst, ap, ◌∙◌}
use mathlib.Core.Bool.{true}
use Prim.Native.Nat.{ℕ, ◌+◌, ◌-◌, ◌*◌, ◌≤◌, ◌<◌, ◌∣◌}
use native.Mathlib.Nat.{dvd-mul_right_of_dvd}
use native.Mathlib.Omega.{arith}
use lib.IntN.{ℤ, pos, ◌+ℤ◌, ◌-ℤ◌, ◌*ℤ◌, +ℤ_assoc}
use lib.Signed.{quot_z}
use lib.Dec.{T}
use Rattle.sign.specs.Halves.{up, dn}
use Rattle.sign.proofs.Laws.{one_side}
use Rattle.sign.proofs.Balance.{times-sum, whole-times, whole_sum, whole-gap, whole_above, whole_back}
use Rattle.rules.specs.Refusals.{Answer, Gives, Refused, RefusedAt, ◌then◌, demand, given}
use Rattle.rules.specs.Calendar.{day_of_year}
use Rattle.rules.specs.Kinds.{Kind, Fields, least_hour, of_kind}
use Rattle.rules.specs.Days.{Same, by_z, by_n, order}
use Rattle.rules.proofs.OnKinds.KindLaws.{fit}
use Rattle.rules.proofs.OnDays.CountLaws.{InRange, range_gives, given-range, add-gap, sum-gives, sign_order, sign-is, sign-times, shifted-order}
use Rattle.rules.proofs.OnDays.OrderLaws.{same-order, pair-order, order_is}
use Rattle.rules.proofs.OnDays.DifferenceLaws.{days-order}
use Rattle.requests.specs.Hours.{counts_in, hour_number, since_first, hours_after, hour_summed, count_between, add_count}
use Rattle.requests.proofs.OnHours.BlockLaws.{Counts, counts}
use Rattle.requests.proofs.OnHours.NumberLaws.{fits, day-in, hour-in, number-even, number_in, number-whole, date-back, since-even, number_of, is-date}

-- ---- the difference

module _ (block : ℕ) (k : Kind) (c : counts_in block k ≡ true) (f g : Fields) (p : of_kind k f ≡ true) (q : of_kind k g ≡ true) where
  -- the blocks between two dates have exactly the hours between them: nothing is left over
  between-whole : pos block *ℤ quot_z (hour_number k g -ℤ hour_number k f) (pos block) ≡ hour_number k g -ℤ hour_number k f
  between-whole =
      let t = counts block k c in
      whole_back block _ (whole-gap block (hour_number k g) (hour_number k f) (number-whole k t g q) (number-whole k t f p))

  pub between-hours : (count_between block k f g then λ n. Gives (pos block *ℤ n)) ≡ Gives (hour_number k g -ℤ hour_number k f)
  unfolding count_between
  between-hours = rw c (ap Gives between-whole)

  -- "Adding the difference reaches the other"
  pub add-between : (count_between block k f g then add_count block k f) ≡ Gives g
  unfolding count_between add_count
  add-between = rw (c, c, between-whole, add-gap (hour_number k f) (hour_number k g)) (date-back k (counts block k c) g q)

-- ---- adding twice

-- the number of a sum is the number and what was added, so that the count runs straight through every year
pub sum_number : (block : ℕ) (k : Kind) → counts_in block k ≡ true → (f g : Fields) (a : ℤ) → add_count block k f a ≡ Gives g →
    hour_number k g ≡ hour_number k f +ℤ pos block *ℤ a
unfolding add_count hour_summed
sum_number block k c f g a e =
    let s = hour_number k f +ℤ pos block *ℤ a in
    let r = sum-gives 243247680 330847679 (omega arith) (omega arith) (λ n. hours_after k (since_first n)) s g (rw c at e) in
    ap (hour_number k) (sym r.1) ∙ number_of k s r.0.0

-- so that a sum goes on as its start would
goes_on : (block : ℕ) (k : Kind) → counts_in block k ≡ true → (f g : Fields) (a b : ℤ) → add_count block k f a ≡ Gives g →
    add_count block k g b ≡ add_count block k f (a +ℤ b)
unfolding add_count
goes_on block k c f g a b e =
    rw (
      sum_number block k c f g a e,
      +ℤ_assoc (hour_number k f) (pos block *ℤ a) (pos block *ℤ b),
      times-sum block a b,
    )

-- "additions compose where each part and the sum fit and the first is not refused": of all integers, whatever their bits
pub add_twice : (block : ℕ) (k : Kind) → counts_in block k ≡ true → (f : Fields) (a b : ℤ) → given (add_count block k f a) ≡ true →
    (add_count block k f a then λ g. add_count block k g b) ≡ add_count block k f (a +ℤ b)
add_twice block k c f a b e = by (add_count block k f a) refl e
  where
    by : (x : Answer Fields) → add_count block k f a ≡ x → given x ≡ true → (x then λ g. add_count block k g b) ≡ add_count block k f (a +ℤ b)
    by (Gives g) i t = goes_on block k c f g a b i
    by (Refused n) i t = absurd (subst T (sym t) tt)
    by (RefusedAt n place) i t = absurd (subst T (sym t) tt)

-- a sum is a date of its kind
pub sum-is-date : (block : ℕ) (k : Kind) → counts_in block k ≡ true → (f g : Fields) (a : ℤ) → of_kind k f ≡ true →
    add_count block k f a ≡ Gives g → of_kind k g ≡ true
unfolding add_count hour_summed
sum-is-date block k c f g a p e =
    let t = counts block k c in let s = hour_number k f +ℤ pos block *ℤ a in
    let r = sum-gives 243247680 330847679 (omega arith) (omega arith) (λ n. hours_after k (since_first n)) s g (rw c at e) in
    let i = since-even s r.0.0 in let u = r.0.1 in
    let w = whole_sum block (hour_number k f) (pos block *ℤ a) (number-whole k t f p) (whole-times block a) in
    subst (λ x. of_kind k x ≡ true) r.1
    (is-date k t (since_first s) (omega arith)
    (whole_above block s w 243247680 (since_first s) (dvd-mul_right_of_dvd block t.day 10135320) i))

-- ---- the sign

-- hours in the order of year, day of year and hour of the day
places-order : (a b l r x y : ℕ) → l < 365 → r < 365 → x < 24 → y < 24 →
    by_n (8760 * a + 24 * l + x) (8760 * b + 24 * r + y) Same ≡ by_n a b (by_n l r (by_n x y Same))
places-order a b l r x y p q s t =
    pair-order a b (24 * l + x) (24 * r + y) (8760 * a + 24 * l + x) (8760 * b + 24 * r + y) Same
    (λ h. omega arith) (λ h. omega arith) (λ h. (λ o. omega arith, λ o. omega arith, λ o. omega arith))
    ∙ ap (by_n a b)
    (pair-order l r x y (24 * l + x) (24 * r + y) Same (λ h. omega arith) (λ h. omega arith) (λ h. (λ o. omega arith, λ o. omega arith, λ o. omega arith)))

module _ {block : ℕ} (k : Kind) (c : Counts block k) (f g : Fields) (p : of_kind k f ≡ true) (q : of_kind k g ≡ true) where
  numbers-order : by_z (hour_number k f) (hour_number k g) Same ≡ order f g
  numbers-order =
      let t = fit k f p in let u = fit k g q in
      let v = hour-in k c f p in let w = hour-in k c g q in let vb = v.from_first in let wb = w.from_first in
      let l = day_of_year f.month f.day in let r = day_of_year g.month g.day in
      let x = f.hour - least_hour k in let y = g.hour - least_hour k in
      let a = up f.year + 32768 - dn f.year in let b = up g.year + 32768 - dn g.year in
      shifted-order 243247680 (hour_number k f) (hour_number k g) (8760 * a + 24 * l + x) (8760 * b + 24 * r + y) Same
      (omega (arith, number-even k c f p)) (omega (arith, number-even k c g q))
      ∙ places-order a b l r x y (day-in k c f p) (day-in k c g q) v.in-day w.in-day
      ∙ sym (shifted-order 32768 f.year g.year a b _ (omega arith) (omega arith))
      ∙ ap (by_z f.year g.year)
      (ap (by_n l r) (same-order f.hour g.hour x y Same (λ h. omega arith) (λ h. omega arith) (λ h. omega arith))
      ∙ days-order f.month g.month f.day g.day (by_n f.hour g.hour Same)
      t.month-high u.month-high t.day-low u.day-low (fits k c f p) (fits k c g q))
      ∙ sym (order_is k k f g p q)

-- "the sign is the order for all pairs"
pub between-sign : (block : ℕ) (k : Kind) → counts_in block k ≡ true → (f g : Fields) → of_kind k f ≡ true → of_kind k g ≡ true →
    (count_between block k f g then λ n. Gives (sign_order n)) ≡ Gives (order f g)
unfolding count_between
between-sign block k c f g p q =
    let t = counts block k c in let z = quot_z (hour_number k g -ℤ hour_number k f) (pos block) in
    rw c (ap Gives (sym (sign-times block t.some z) ∙ ap sign_order (between-whole block k c f g p q)
    ∙ sign-is (hour_number k f) (hour_number k g) ∙ numbers-order k t f g p q))
