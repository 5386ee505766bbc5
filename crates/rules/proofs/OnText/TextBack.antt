-- A date's own dotted text read again: it gives the date, whatever the kind. Assumes nothing.
use mathlib.Core.Path.{◌≡◌, refl, ap}
use mathlib.Core.Bool.{Bool, true, false, cond, not}
use mathlib.Core.List.{List, [], ◌∷◌, ◌++◌, append_assoc, append-nil}
use Prim.Native.Nat.{ℕ, suc, ◌/◌, ◌^◌, ◌≤◌, ◌<◌}
use native.Mathlib.Omega.{arith}
use borrow.Author.Tests.{le-leb, ne_eqb, eqb-true, eqb-false, ltb-true, ltb-false}
use lib.Dec.{ltb, eqb}
use lib.IntN.{ℤ, pos, negsuc}
use lib.ListN.{length}
use Rattle.sign.specs.Halves.{up, dn}
use Rattle.rules.specs.Words.{bytes, byte}
use Rattle.rules.specs.Refusals.{Gives, not_text}
use Rattle.rules.specs.Kinds.{Kind, kR, kD, kH, kU, kE, kV, Fields, hour_fits, of_kind, settled_hour, made, settled}
use Rattle.rules.specs.Spelling.{digit, decimal, plain_year, dotted_pair, dotted_hour, dotted}
use Rattle.rules.specs.Text.{leading, one_or_two, after_dot, not_zero_first, hour_after, dotted_part, starts_with_plus, shape_allowed, text_limit, text_fields, read_text}
use Rattle.rules.proofs.OnSpelling.DecimalLaws.{one-digit, two_digits, digits-least}
use Rattle.rules.proofs.OnSpelling.DigitLaws.{OnlyDigits, none, next, no_digit, no_sign, lead-digits, digits-front, digits-after, decimal-digits, decimal-value, read-decimal, read-filled}
use Rattle.rules.proofs.OnKinds.KindLaws.{fit, high, yes-within}
use Rattle.rules.proofs.OnDays.OrderLaws.{day-small, hour-small}
use Rattle.rules.proofs.OnSpelling.LengthLaws.{text-lengths, dotted-size}

-- ---- the year

-- the leading number of a text that starts with a year
lead-year : (y : ℤ) (r : List ℕ) → dn y ≤ 32768 → up y ≤ 32767 → no_digit r ≡ true →
    leading (plain_year y ++ r) ≡ Gives (record { value = y; rest = r })
unfolding leading
lead-year (pos n) r a b e =
    let h : n < 10 ^ 20 = omega arith in
    rw (lead-digits r (decimal-digits n h) (digits-least n) e, decimal-value n h)
lead-year (negsuc n) r a b e =
    let h : suc n < 10 ^ 20 = omega arith in
    rw (digits-front r (decimal-digits (suc n) h) e, digits-after r (decimal-digits (suc n) h) e, decimal-value (suc n) h)

digits-no-plus : {s : List ℕ} (r : List ℕ) → OnlyDigits s → 1 ≤ length s → starts_with_plus (s ++ r) ≡ false
digits-no-plus r none h = absurd (omega arith)
digits-no-plus r (next {b} d ds) h = no_sign b 43 d (omega arith)

year-no-plus : (y : ℤ) (r : List ℕ) → dn y ≤ 32768 → up y ≤ 32767 → starts_with_plus (plain_year y ++ r) ≡ false
year-no-plus (pos n) r a b = let h : n < 10 ^ 20 = omega arith in digits-no-plus r (decimal-digits n h) (digits-least n)
year-no-plus (negsuc n) r a b = refl

-- ---- month, day and hour

read-pair : (k : Kind) (n : ℕ) (r : List ℕ) → n < 100 → no_digit r ≡ true →
    one_or_two (dotted_pair k n ++ r) ≡ Gives (record { value = n; rest = r })
read-pair kR n r h e = read-decimal n r h e
read-pair kD n r h e = read-decimal n r h e
read-pair kH n r h e = read-decimal n r h e
read-pair kU n r h e = read-filled n r h
read-pair kE n r h e = read-decimal n r h e
read-pair kV n r h e = read-decimal n r h e

-- what is written first of a number other than 0 is not `0`
not-zero : (n : ℕ) → 1 ≤ n → n < 100 → not_zero_first (decimal n) ≡ true
not-zero n l h = split (ltb n 10) refl
  where
    first : (d : ℕ) → 1 ≤ d → not (eqb (digit d) (byte "0")) ≡ true
    first d p = rw (ne_eqb (digit d) 48 (λ e. omega arith))

    split : (t : Bool) → ltb n 10 ≡ t → not_zero_first (decimal n) ≡ true
    split true q = rw (one-digit n (ltb-true n 10 q)) (first n l)
    split false q = let g = ltb-false n 10 q in rw (two_digits n g h) (first (n / 10) (omega arith))

-- an hour, or nothing, starts with no digit
hour-no-digit : (h : ℕ) → no_digit (dotted_hour h) ≡ true
unfolding dotted_hour
hour-no-digit h = split (eqb h 0)
  where
    split : (t : Bool) → no_digit (cond t [] (bytes "." ++ decimal h)) ≡ true
    split true = refl
    split false = refl

read-hour : (h : ℕ) → h < 100 → hour_after (dotted_hour h) ≡ Gives h
unfolding dotted_hour hour_after after_dot
read-hour h l = split (eqb h 0) refl
  where
    split : (t : Bool) → eqb h 0 ≡ t → hour_after (cond t [] (bytes "." ++ decimal h)) ≡ Gives h
    split true e = let z = eqb-true h 0 e in rw z
    split false e =
        let n : (h ≡ 0 → ⊥) = eqb-false h 0 e in
        let q = rw (append-nil (decimal h)) at (read-decimal h [] l refl) in
        rw (not-zero h (omega arith) l, q)

-- ---- after the year

abbrev after_year : Kind → Fields → List ℕ
after_year k f = byte "." ∷ (dotted_pair k f.month ++ (byte "." ∷ (dotted_pair k f.day ++ dotted_hour f.hour)))

year-first : (k : Kind) (f : Fields) → dotted k f ≡ plain_year f.year ++ after_year k f
unfolding dotted
year-first k f = simp append_assoc

read-part : (k : Kind) (f : Fields) → f.month < 100 → f.day < 100 → f.hour < 100 → dotted_part f.year (after_year k f) ≡ Gives f
unfolding dotted_part after_dot
read-part k f m d h =
    let day = dotted_pair k f.day ++ dotted_hour f.hour in
    rw (
      read-pair k f.month (byte "." ∷ day) m refl,
      read-pair k f.day (dotted_hour f.hour) d (hour-no-digit f.hour),
      read-hour f.hour h,
    )

-- ---- the whole text

-- E's hour is at most 22, so that none of a kind's hours is settled to another
hour-settled : (k : Kind) (h : ℕ) → hour_fits k h ≡ true → settled_hour k h ≡ h
hour-settled kR h e = refl
hour-settled kD h e = refl
hour-settled kH h e = refl
hour-settled kU h e = refl
hour-settled kE h e = let m = high 0 22 h e in rw (ne_eqb h 23 (λ q. omega arith))
hour-settled kV h e = refl

pub date-settled : (k : Kind) (n : ℕ) (f : Fields) → of_kind k f ≡ true → settled k n f ≡ Gives f
unfolding settled made
date-settled k n f p = rw (hour-settled k f.hour (fit k f p).hour-fits, p)

no-hour : (h : ℕ) → h ≡ 0 → dotted_hour h ≡ []
unfolding dotted_hour
no-hour h e = rw e

-- D: 5 to 12 bytes, and no `+`
shape-kept : (k : Kind) (f : Fields) → of_kind k f ≡ true → shape_allowed k (dotted k f) ≡ true
unfolding shape_allowed
shape-kept kR f p = refl
shape-kept kD f p =
    let t = fit kD f p in
    let s = dotted-size kD f p in
    let none = ap length (no-hour f.hour (eqb-true f.hour 0 t.hour-fits)) in
    let plus : starts_with_plus (dotted kD f) ≡ false = rw (year-first kD f) (year-no-plus f.year (after_year kD f) t.year-low t.year-high) in
    rw (yes-within 5 12 (length (dotted kD f)) (omega arith) (omega arith), plus)
shape-kept kH f p = refl
shape-kept kU f p = refl
shape-kept kE f p = refl
shape-kept kV f p = refl

-- reading a date's own dotted text gives the date
pub text-back : (k : Kind) (f : Fields) → of_kind k f ≡ true → read_text k (dotted k f) ≡ Gives f
unfolding read_text text_fields
text-back k f p =
    let t = fit k f p in
    let l = (text-lengths k f p).dotted-length in
    let d = day-small k f p in let h = hour-small k f p in
    rw (
      le-leb (length (dotted k f)) text_limit (omega arith),
      shape-kept k f p,
      year-first k f,
      lead-year f.year (after_year k f) t.year-low t.year-high refl,
      read-part k f (omega arith) (omega arith) (omega arith),
      date-settled k not_text f p,
    )
