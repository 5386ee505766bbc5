-- A text after its leading number, by the code's tests. Assumes nothing.
use mathlib.Core.Path.{◌≡◌, refl, sym}
use mathlib.Core.Bool.{Bool, true, false, and-false}
use mathlib.Core.List.{List}
use Prim.Native.Nat.{ℕ, ◌≤◌, ◌<◌}
use native.Mathlib.Omega.{arith}
use lib.IntN.{ℤ, pos}
use lib.Signed.{lt_z, le_z}
use mir.Syntax.{w32}
use mir.Val.{to_z, of_z, SFits}
use mir.Facts.{to_z-of_z}
use Rattle.std.specs.Prelude.{Some, None, Result, Ok, Err, OkIff}
use Rattle.std.specs.Result.{result_ok}
use lib.ListN.{length, drop}
use Rattle.sign.specs.Halves.{up, dn}
use Rattle.sign.proofs.Laws.{ints, one_side, lt-true, le-true, yes_le, no_le}
use Rattle.sign.proofs.Bits.{fits-from, fits-tells}
use Rattle.rules.specs.Words.{minus, within_z, fits16, fits32}
use Rattle.rules.specs.Refusals.{Answer, Gives, Refused, ◌then◌, not_text}
use Rattle.rules.specs.Kinds.{Kind, Fields, Stored, of_kind, made, settled, store}
use Rattle.rules.specs.Numbers.{number_fields}
use Rattle.rules.specs.Text.{reads_number_texts, number_text, dotted_part, text_fields}
use Rattle.rules.proofs.OnKinds.KindLaws.{left, right}
use Rattle.kinds.proofs.SetLaws.{outside}
use Rattle.rules.proofs.Shared.Rests.{here, past}

-- ---- whether the leading number fits 16, or 32, bits

module _ (y : ℤ) (lo hi : ℕ) where
  pub too-low : lt_z y (minus lo) ≡ true → within_z (minus lo) (pos hi) y ≡ false
  too-low e = rw (no_le (minus lo) y (lt-true y (minus lo) e))

  pub too-high : lt_z (pos hi) y ≡ true → within_z (minus lo) (pos hi) y ≡ false
  too-high e = rw (no_le y (pos hi) (lt-true (pos hi) y e), and-false (le_z (minus lo) y))

  is_within : (up y ≤ hi) × (dn y ≤ lo) → within_z (minus lo) (pos hi) y ≡ true
  is_within h = rw (yes_le (minus lo) y (simp ints (omega (arith, one_side y))), yes_le y (pos hi) (omega (arith, one_side y)))

  fits_in : within_z (minus lo) (pos hi) y ≡ true → (up y ≤ hi) × (dn y ≤ lo)
  fits_in e =
      let l = simp ints at (le-true (minus lo) y (left (le_z (minus lo) y) (le_z y (pos hi)) e)) in
      let h = le-true y (pos hi) (right (le_z (minus lo) y) (le_z y (pos hi)) e) in
      omega (arith, l, h, one_side y)

-- a number that 32 bits hold, as 32 bits and back
pub narrowed32 : (y : ℤ) → fits32 y ≡ true → to_z w32 (of_z w32 y) ≡ y
narrowed32 y p = let t = fits_in y 2147483648 2147483647 p in to_z-of_z (fits-from w32 y (omega arith) (omega arith))

by-test : {A : Type 0} (t : Bool) → (t ≡ true → A) → (A → ⊥) → t ≡ false
by-test true holds never = absurd (never (holds refl))
by-test false holds never = refl

-- by the library's conversion to 32 bits
module _ {E : Type 0} (y : ℤ) (r : Result ℤ E) where
  pub held32 : {n : ℤ} → OkIff r (SFits w32 y) y → Some n ≡ result_ok r → (fits32 y ≡ true) × (to_z w32 (of_z w32 n) ≡ y)
  held32 = by r
    where
      by : {n : ℤ} (r : Result ℤ E) → OkIff r (SFits w32 y) y → Some n ≡ result_ok r → (fits32 y ≡ true) × (to_z w32 (of_z w32 n) ≡ y)
      by {n} (Ok x) told e = let t = fits-tells w32 y told.0 in let same : n ≡ y = cc in (is_within y 2147483648 2147483647 (omega arith), rw same (to_z-of_z told.0))
      by (Err f) told e = cc

  pub not-held32 : OkIff r (SFits w32 y) y → None ≡ result_ok r → fits32 y ≡ false
  not-held32 told e =
      by-test (fits32 y) (λ p. let t = fits_in y 2147483648 2147483647 p in fits-from w32 y (omega arith) (omega arith)) (outside (SFits w32 y) y r told (sym e))

-- ---- a number text

module _ (k : Kind) (v : ℤ) where
  abbrev pub number_date : Answer Stored
  number_date = store (number_text k v then λ f. settled k not_text f)

  pub number-lacks : reads_number_texts k ≡ false → number_date ≡ Refused not_text
  unfolding number_text
  number-lacks a = rw a

  pub number-out : reads_number_texts k ≡ true → fits32 v ≡ false → number_date ≡ Refused not_text
  unfolding number_text
  number-out a b = rw (a, b)

  pub number-none : reads_number_texts k ≡ true → fits32 v ≡ true → number_fields not_text v ≡ Refused not_text → number_date ≡ Refused not_text
  unfolding number_text
  number-none a b e = rw (a, b, e)

  pub number-some : (f : Fields) → reads_number_texts k ≡ true → fits32 v ≡ true → number_fields not_text v ≡ Gives f →
      number_date ≡ store (settled k not_text f)
  unfolding number_text
  number-some f a b e = rw (a, b, e)

-- ---- fields of any year

module _ (k : Kind) (f : Fields) where
  abbrev pub fields_date : Answer Stored
  fields_date = store (settled k not_text f)

  pub year-refused : fits16 f.year ≡ false → fields_date ≡ Refused not_text
  unfolding settled made of_kind
  year-refused e = rw e

-- ---- the dotted part

module _ (k : Kind) (y : ℤ) (s : List ℕ) where
  abbrev pub dotted_date : Answer Stored
  dotted_date = store (dotted_part y s then λ f. settled k not_text f)

  pub dotted-none : dotted_part y s ≡ Refused not_text → dotted_date ≡ Refused not_text
  dotted-none e = rw e

  pub dotted-some : (f : Fields) → dotted_part y s ≡ Gives f → dotted_date ≡ fields_date k f
  dotted-some f e = rw e

-- ---- the two

module _ (k : Kind) (v : ℤ) (s : List ℕ) (i : ℕ) where
  abbrev pub rest_date : Answer Stored
  rest_date = store (text_fields k (record { value = v; rest = drop i s }) then λ f. settled k not_text f)

  pub ends : length s ≤ i → rest_date ≡ number_date k v
  unfolding text_fields
  ends h = rw (past s i h)

  pub goes_on : i < length s → rest_date ≡ dotted_date k v (drop i s)
  unfolding text_fields
  goes_on h = rw (here s i h)
