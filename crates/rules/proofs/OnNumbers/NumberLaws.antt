-- Which numbers are read, exactly; the guess is narrow; a number's fields by their parts. Assumes nothing.
use mathlib.Core.Path.{◌≡◌, refl, ◌∙◌, sym, ap, subst}
use mathlib.Core.Bool.{Bool, true, false, cond, ◌&&◌, ◌||◌}
use Prim.Native.Nat.{ℕ, zero, suc, ◌+◌, ◌-◌, ◌*◌, ◌/◌, ◌%◌, ◌≤◌, ◌<◌}
use native.Mathlib.Omega.{arith}
use borrow.Author.Tests.{leb-true, le-leb, lt-leb, eqb-true, eq-eqb}
use lib.Dec.{T, leb, eqb}
use lib.IntN.{ℤ, pos, negsuc, neg_ℤ, nat_abs, sub_ℕ, ◌+ℤ◌, ◌-ℤ◌, ◌*ℤ◌}
use lib.Signed.{lt_z, le_z, non_neg, quot_z, rem_z}
use Rattle.sign.specs.Halves.{up, dn}
use Rattle.sign.proofs.Laws.{same, ints, one_side, yes_le, no_le, le-true, yes-nonneg, no-nonneg, nonneg-true}
use Rattle.rules.specs.Words.{minus, within_z, eq_z, fits16}
use Rattle.rules.specs.Refusals.{Answer, Gives, Refused, RefusedAt, ◌then◌, demand, given, not_number, not_of_kind}
use Rattle.rules.specs.Calendar.{month_day, day_of_year}
use Rattle.rules.specs.Kinds.{Kind, kR, kD, kH, kU, kE, kV, Fields, fits_kind, of_kind, made, settled, hour_fits, least_hour}
use Rattle.rules.specs.Numbers.{on_day, hour_of, day_of, year_of, has_fields, number_fields, reads_numbers, decoded_hour, decoded, read_number, guesses, guessed, guess_number, new_year, straight, writes_numbers, written_hour, write_number}
use Rattle.rules.proofs.OnKinds.KindLaws.{Fit, fit, left, right, low, high}

-- ---- which numbers are read

-- "negative s is read only at multiples of 8760, and s lies in -243,247,680 to 330,847,679"
abbrev pub readable : ℤ → Bool
readable s = within_z (minus 243247680) (pos 330847679) s && (non_neg s || eq_z (rem_z s (pos 8760)) (pos 0))

same_truth : (a b : Bool) → (a ≡ true → b ≡ true) → (b ≡ true → a ≡ true) → a ≡ b
same_truth true b f g = sym (f refl)
same_truth false true f g = g refl
same_truth false false f g = refl

given-demand : {A : Type 0} (t : Bool) (n : ℕ) (a : A) → given (demand t n (Gives a)) ≡ t
given-demand true n a = refl
given-demand false n a = refl

-- `has_fields`, over the two naturals of s
pub record Stands (u d : ℕ) : Type 0 where
  pub hour : d % 24 ≡ 0
  pub day : d / 24 % 365 ≡ 0
  pub low : d / 8760 + 5000 ≤ u / 8760 + 32768
  pub high : u / 8760 ≤ d / 8760 + 5000 + 32767

pub stands-tells : (s : ℤ) → has_fields s ≡ true → Stands (up s) (dn s)
stands-tells s e =
    let hd = left (non_neg (hour_of s) && non_neg (day_of s)) (fits16 (year_of s)) e in
    let y = right (non_neg (hour_of s) && non_neg (day_of s)) (fits16 (year_of s)) e in
    let l = simp ints at (le-true (minus 32768) (year_of s) (left (le_z (minus 32768) (year_of s)) _ y)) in
    let h = simp ints at (le-true (year_of s) (pos 32767) (right (le_z (minus 32768) (year_of s)) _ y)) in
    record {
      hour = simp ints at (nonneg-true (hour_of s) (left (non_neg (hour_of s)) (non_neg (day_of s)) hd));
      day = simp ints at (nonneg-true (day_of s) (right (non_neg (hour_of s)) (non_neg (day_of s)) hd));
      low = omega arith;
      high = omega arith;
    }

pub stands_from : (s : ℤ) → Stands (up s) (dn s) → has_fields s ≡ true
stands_from s t =
    rw (
      yes-nonneg (hour_of s) (simp ints t.hour),
      yes-nonneg (day_of s) (simp ints t.day),
      yes_le (minus 32768) (year_of s) (simp ints (omega arith)),
      yes_le (year_of s) (pos 32767) (simp ints (omega arith)),
    )

-- and `readable`
whole-year : (s : ℤ) → non_neg s || eq_z (rem_z s (pos 8760)) (pos 0) ≡ true → dn s % 8760 ≡ 0
whole-year (pos n) e = refl
whole-year (negsuc n) e =
    let r = rem_z (negsuc n) (pos 8760) in
    let h = simp ints at (le-true (pos 0) r (right (le_z r (pos 0)) (le_z (pos 0) r) e)) in omega arith

whole-year-back : (s : ℤ) → dn s % 8760 ≡ 0 → non_neg s || eq_z (rem_z s (pos 8760)) (pos 0) ≡ true
whole-year-back (pos n) h = refl
whole-year-back (negsuc n) h =
    let r = rem_z (negsuc n) (pos 8760) in
    rw (yes_le r (pos 0) (simp ints (omega arith)), yes_le (pos 0) r (simp ints (omega arith)))

readable-tells : (s : ℤ) → readable s ≡ true → Stands (up s) (dn s)
readable-tells s e =
    let range = within_z (minus 243247680) (pos 330847679) s in
    let r = left range (non_neg s || eq_z (rem_z s (pos 8760)) (pos 0)) e in
    let w = whole-year s (right range (non_neg s || eq_z (rem_z s (pos 8760)) (pos 0)) e) in
    let l = le-true (minus 243247680) s (left (le_z (minus 243247680) s) (le_z s (pos 330847679)) r) in
    let h = le-true s (pos 330847679) (right (le_z (minus 243247680) s) (le_z s (pos 330847679)) r) in
    let o = one_side s in
    record { hour = omega arith; day = omega arith; low = omega arith; high = omega arith }

readable-from : (s : ℤ) → Stands (up s) (dn s) → readable s ≡ true
readable-from s t =
    let o = one_side s in
    rw (
      yes_le (minus 243247680) s (omega arith),
      yes_le s (pos 330847679) (omega arith),
      whole-year-back s (omega arith),
    )

-- a number has fields exactly where it is readable
pub fields-exactly : (n : ℕ) (s : ℤ) → given (number_fields n s) ≡ readable s
unfolding number_fields
fields-exactly n s =
    given-demand (has_fields s) n _
    ∙ same_truth (has_fields s) (readable s) (λ e. readable-from s (stands-tells s e)) (λ e. stands_from s (readable-tells s e))

-- ---- what the full decoder and the guess give

given-then : {A B : Type 0} (a : Answer A) (next : A → Answer B) → given (a then next) ≡ true → given a ≡ true
given-then (Gives a) next e = refl
given-then (Refused n) next e = e
given-then (RefusedAt n place) next e = e

given-behind : {A : Type 0} (t : Bool) (n : ℕ) (x : Answer A) → given (demand t n x) ≡ true → given x ≡ true
given-behind true n x e = e
given-behind false n x e = absurd (subst T (sym e) tt)

-- numbers are read only where they are readable
pub read-only-there : (k : Kind) (s : ℤ) → given (read_number k s) ≡ true → readable s ≡ true
unfolding read_number
read-only-there k s e =
    sym (fields-exactly not_number s)
    ∙ given-then (number_fields not_number s) (decoded k) (given-behind (reads_numbers k) not_of_kind (number_fields not_number s then decoded k) e)

-- the guess is narrow: it gives what the full decoder gives, or nothing
pub guess-is-narrow : (k : Kind) (s : ℤ) → given (guess_number k s) ≡ true → guess_number k s ≡ read_number k s
unfolding guess_number read_number
guess-is-narrow k s e = by k (guesses k) refl (number_fields not_number s) e
  where
    -- every kind that guesses reads
    reads : (k : Kind) → guesses k ≡ true → reads_numbers k ≡ true
    reads kR e = absurd (subst T (sym e) tt)
    reads kD e = refl
    reads kH e = refl
    reads kU e = absurd (subst T (sym e) tt)
    reads kE e = refl
    reads kV e = refl

    tested : (k : Kind) (t : Bool) (x : Answer Fields) → given (demand t not_number x) ≡ true → demand t not_number x ≡ x
    tested k true x e = refl
    tested k false x e = absurd (subst T (sym e) tt)

    inner : (k : Kind) (a : Answer Fields) →
        given (a then λ f. demand (guessed k f) not_number (decoded k f)) ≡ true →
        (a then λ f. demand (guessed k f) not_number (decoded k f)) ≡ (a then decoded k)
    inner k (Gives f) e = tested k (guessed k f) (decoded k f) e
    inner k (Refused n) e = refl
    inner k (RefusedAt n place) e = refl

    by : (k : Kind) (t : Bool) → guesses k ≡ t → (a : Answer Fields) →
        given (demand t not_of_kind (a then λ f. demand (guessed k f) not_number (decoded k f))) ≡ true →
        demand t not_of_kind (a then λ f. demand (guessed k f) not_number (decoded k f)) ≡ demand (reads_numbers k) not_of_kind (a then decoded k)
    by k true g a e = rw (reads k g) (inner k a e)
    by k false g a e = absurd (subst T (sym e) tt)

-- ---- the fields of a number

demand-false : {A : Type 0} (t : Bool) (n : ℕ) (x : Answer A) → (t ≡ true → ⊥) → demand t n x ≡ Refused n
demand-false true n x h = absurd (h refl)
demand-false false n x h = refl

-- by its year, its day of year and its hour
pub fields_at : (r : ℕ) (s y : ℤ) (d h : ℕ) → Stands (up s) (dn s) → year_of s ≡ y → nat_abs (day_of s) ≡ d → nat_abs (hour_of s) ≡ h →
    number_fields r s ≡ Gives (on_day y d h)
unfolding number_fields
fields_at r s y d h t p q u = rw (stands_from s t) (λ i. Gives (on_day (p i) (q i) (u i)))

-- and none of any other number, such as a negative one that is no multiple of 8760
pub no_fields : (r : ℕ) (s : ℤ) → (Stands (up s) (dn s) → ⊥) → number_fields r s ≡ Refused r
unfolding number_fields
no_fields r s h = demand-false (has_fields s) r _ (λ e. h (stands-tells s e))

pub fields-refused : (r : ℕ) (s : ℤ) → (dn s % 8760 ≡ 0 → ⊥) → number_fields r s ≡ Refused r
fields-refused r s h = no_fields r s (λ t. h (omega arith))
