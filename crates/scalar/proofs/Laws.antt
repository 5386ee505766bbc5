-- A leading number, digit by digit: a turn of the loop, its ends, and the first byte. Assumes nothing.
use mathlib.Core.Path.{◌≡◌, refl, sym, ap, ◌∙◌}
use mathlib.Core.List.{List, [], ◌∷◌}
use mathlib.Core.Bool.{Bool, true, false}
use Prim.Native.Nat.{ℕ, zero, suc, ◌+◌, ◌*◌, ◌-◌, ◌^◌, ◌≤◌, ◌<◌}
use native.Mathlib.Nat.{pow-succ', one-le-pow, le-mul_of_pos_right, mul_assoc, add-mul, zero-mul, zero-add}
use native.Mathlib.Omega.{arith}
use lib.Dec.{leb, eqb, lit<}
use lib.IntN.{nat_abs}
use lib.ListN.{length, get_or, drop}
use borrow.Author.Tests.{le-leb, lt-leb, eq-eqb, ne_eqb}
use Rattle.rules.specs.Words.{within, minus}
use Rattle.rules.specs.Refusals.{Gives, Refused, ◌then◌, demand, not_text}
use Rattle.rules.specs.Text.{digits, after_digits, decimal_value, natural, signed, leading}
use Rattle.rules.proofs.Shared.Rests.{here, past}
use Rattle.scalar.specs.Number.{most63, leading_number, value_from, partial_of, sign_of, number_of}

-- a digit c before n others, whose power of ten is p
shift : (v c p d : ℕ) → v * (10 * p) + (c * p + d) ≡ (v * 10 + c) * p + d
shift v c p d =
    let a : v * (10 * p) ≡ v * 10 * p = sym (mul_assoc v 10 p) in
    let b : (v * 10 + c) * p ≡ v * 10 * p + c * p = add-mul (v * 10) c p in
    omega arith

-- a digit goes on
pub goes_on : (v : ℕ) (s : List ℕ) (i : ℕ) → i < length s → 48 ≤ get_or s i 0 → get_or s i 0 ≤ 57 →
    partial_of v (drop i s) ≡ partial_of (v * 10 + (get_or s i 0 - 48)) (drop (i + 1) s)
unfolding partial_of digits after_digits decimal_value
goes_on v s i h l k =
    let t = drop (i + 1) s in
    rw (
      here s i h,
      le-leb 48 (get_or s i 0) l,
      le-leb (get_or s i 0) 57 k,
      pow-succ' 10 (length (digits t)),
      shift v (get_or s i 0 - 48) (10 ^ length (digits t)) (decimal_value (digits t)),
    )

-- a text that starts with no digit, or nothing, ends it
alone : (v : ℕ) → v * 10 ^ 0 + 0 ≡ v
alone v = omega arith

pub stops-low : (v : ℕ) (s : List ℕ) (i : ℕ) → v ≤ most63 → i < length s → get_or s i 0 < 48 →
    partial_of v (drop i s) ≡ Gives (record { value = v; rest = drop i s })
unfolding partial_of digits after_digits decimal_value
stops-low v s i m h l = rw (here s i h, lt-leb 48 (get_or s i 0) l, alone v, le-leb v most63 m)

pub stops-high : (v : ℕ) (s : List ℕ) (i : ℕ) → v ≤ most63 → i < length s → 48 ≤ get_or s i 0 → 57 < get_or s i 0 →
    partial_of v (drop i s) ≡ Gives (record { value = v; rest = drop i s })
unfolding partial_of digits after_digits decimal_value
stops-high v s i m h l k = rw (here s i h, le-leb 48 (get_or s i 0) l, lt-leb (get_or s i 0) 57 k, alone v, le-leb v most63 m)

pub stops_end : (v : ℕ) (s : List ℕ) (i : ℕ) → v ≤ most63 → length s ≤ i → partial_of v (drop i s) ≡ Gives (record { value = v; rest = drop i s })
unfolding partial_of digits after_digits decimal_value
stops_end v s i m h = rw (past s i h, alone v, le-leb v most63 m)

-- what is too large stays so, whatever digits follow
pub too_large : (v : ℕ) (s : List ℕ) → most63 < v → partial_of v s ≡ Refused not_text
unfolding partial_of
too_large v s h =
    let p = le-mul_of_pos_right {m = 10 ^ length (digits s)} v (one-le-pow (length (digits s)) 10 (lit< tt)) in
    rw (lt-leb (value_from v s) most63 (omega arith))

-- ---- the first byte

-- the value is tested before its sign is put, or after it
abs-minus : (n : ℕ) → nat_abs (minus n) ≡ n
abs-minus zero = refl
abs-minus (suc n) = refl

sign-size : (negative : Bool) (n : ℕ) → nat_abs (sign_of negative n) ≡ n
sign-size true n = abs-minus n
sign-size false n = refl

signed-fits : (negative : Bool) (n : ℕ) (t : Bool) (s : List ℕ) → leb n most63 ≡ t →
    demand (leb (nat_abs (sign_of negative n)) most63) not_text (Gives (record { value = sign_of negative n; rest = s }))
    ≡ (demand t not_text (Gives (record { value = n; rest = s })) then λ r. Gives (signed (sign_of negative) r))
signed-fits negative n true s e = rw (sign-size negative n, e)
signed-fits negative n false s e = rw (sign-size negative n, e)

-- a value from 0 is that of the digits alone
from_nothing : (t : List ℕ) → value_from 0 t ≡ decimal_value (digits t)
from_nothing t = rw (zero-mul (10 ^ length (digits t)), zero-add (decimal_value (digits t)))

-- after a sign
sign-first : (negative : Bool) (t : List ℕ) →
    demand (leb (nat_abs (sign_of negative (decimal_value (digits t)))) most63) not_text (Gives (signed (sign_of negative) (natural t)))
    ≡ number_of negative 0 t
unfolding number_of partial_of
sign-first negative t = rw (from_nothing t) (signed-fits negative (decimal_value (digits t)) (leb (decimal_value (digits t)) most63) (after_digits t) refl)

-- the first byte: `-`, `+`, a digit, or none of these
minus-first : (b : ℕ) (t : List ℕ) → eqb b 45 ≡ true → leading_number (b ∷ t) ≡ number_of true 0 t
unfolding leading_number leading
minus-first b t e = rw e (sign-first true t)

plus-first : (b : ℕ) (t : List ℕ) → eqb b 45 ≡ false → eqb b 43 ≡ true → leading_number (b ∷ t) ≡ number_of false 0 t
unfolding leading_number leading
plus-first b t e f = rw (e, f) (sign-first false t)

digit-first : (b : ℕ) (t : List ℕ) → eqb b 45 ≡ false → eqb b 43 ≡ false → 48 ≤ b → b ≤ 57 → leading_number (b ∷ t) ≡ number_of false (b - 48) t
unfolding leading_number leading number_of partial_of digits after_digits decimal_value
digit-first b t e f l h = rw (e, f, le-leb 48 b l, le-leb b 57 h) (signed-fits false (value_from (b - 48) t) (leb (value_from (b - 48) t) most63) (after_digits t) refl)

none_first : (b : ℕ) (t : List ℕ) → eqb b 45 ≡ false → eqb b 43 ≡ false → within 48 57 b ≡ false → leading_number (b ∷ t) ≡ Refused not_text
unfolding leading_number leading
none_first b t e f g = rw (e, f, g)

-- the same at place 0 of a text that is not empty
split-first : (s : List ℕ) → 0 < length s → s ≡ get_or s 0 0 ∷ drop 1 s
split-first [] h = absurd (omega arith)
split-first (b ∷ s) h = refl

module _ (s : List ℕ) (some : 0 < length s) where
  pub leads-minus : get_or s 0 0 ≡ 45 → leading_number s ≡ number_of true 0 (drop 1 s)
  leads-minus e = ap leading_number (split-first s some) ∙ minus-first (get_or s 0 0) (drop 1 s) (eq-eqb (get_or s 0 0) 45 e)

  module _ (no_minus : get_or s 0 0 ≡ 45 → ⊥) where
    pub leads-plus : get_or s 0 0 ≡ 43 → leading_number s ≡ number_of false 0 (drop 1 s)
    leads-plus e =
        ap leading_number (split-first s some)
        ∙ plus-first (get_or s 0 0) (drop 1 s) (ne_eqb (get_or s 0 0) 45 no_minus) (eq-eqb (get_or s 0 0) 43 e)

    module _ (no_plus : get_or s 0 0 ≡ 43 → ⊥) where
      pub leads-digit : 48 ≤ get_or s 0 0 → get_or s 0 0 ≤ 57 → leading_number s ≡ number_of false (get_or s 0 0 - 48) (drop 1 s)
      leads-digit l h =
          ap leading_number (split-first s some)
          ∙ digit-first (get_or s 0 0) (drop 1 s) (ne_eqb (get_or s 0 0) 45 no_minus) (ne_eqb (get_or s 0 0) 43 no_plus) l h

      pub leads-none : within 48 57 (get_or s 0 0) ≡ false → leading_number s ≡ Refused not_text
      leads-none e =
          ap leading_number (split-first s some)
          ∙ none_first (get_or s 0 0) (drop 1 s) (ne_eqb (get_or s 0 0) 45 no_minus) (ne_eqb (get_or s 0 0) 43 no_plus) e

pub leads_empty : (s : List ℕ) → length s ≡ 0 → leading_number s ≡ Refused not_text
unfolding leading_number leading
leads_empty [] h = refl
leads_empty (b ∷ s) h = absurd (omega arith)
