-- A text by its leading number, whatever is read after it: of the number the code reads 63 bits, and one of more is no year and no number
-- text. Assumes nothing.
use mathlib.Core.Path.{◌≡◌, refl, sym, ap, ◌∙◌}
use mathlib.Core.Bool.{Bool, true, false}
use mathlib.Core.List.{List}
use Prim.Native.Nat.{ℕ, ◌≤◌, ◌<◌}
use native.Mathlib.Omega.{arith}
use borrow.Author.Tests.{leb-false, ltb-true, ltb-false}
use lib.Dec.{leb, ltb}
use lib.IntN.{ℤ, pos, nat_abs}
use lib.ListN.{drop}
use Rattle.sign.specs.Halves.{dn}
use Rattle.sign.proofs.Laws.{ints, one_side, yes_le, no_le}
use Rattle.std.specs.Prelude.{Option, Some, None}
use Rattle.rules.specs.Words.{minus, within_z, fits16, fits32}
use Rattle.rules.specs.Refusals.{Answer, Gives, Refused, RefusedAt, ◌then◌, demand, not_text}
use Rattle.rules.specs.Kinds.{Fields}
use Rattle.rules.specs.Text.{Read, leading}
use Rattle.scalar.specs.Number.{most63, leading_number}
use Rattle.scalar.specs.Views.{leading_as}
use Rattle.scalar.specs.declared.Leading.{Leading}

-- ---- a number of more than 63 bits

beyond : (y : ℤ) (lo hi : ℕ) → lo ≤ most63 → hi ≤ most63 → most63 < nat_abs y → within_z (minus lo) (pos hi) y ≡ false
beyond y lo hi a b h = split (ltb 0 (dn y)) refl
  where
    split : (t : Bool) → ltb 0 (dn y) ≡ t → within_z (minus lo) (pos hi) y ≡ false
    split true e =
        let l = ltb-true 0 (dn y) e in let o = one_side y in let n = simp ints at h in
        rw (no_le (minus lo) y (simp ints (omega arith)))
    split false e =
        let l = ltb-false 0 (dn y) e in let n = simp ints at h in
        rw (yes_le (minus lo) y (simp ints (omega arith)), no_le y (pos hi) (omega arith))

-- is no year, and does not fit 32 bits
pub no-year : (y : ℤ) → most63 < nat_abs y → fits16 y ≡ false
no-year y h = beyond y 32768 32767 (omega arith) (omega arith) h

pub no_number : (y : ℤ) → most63 < nat_abs y → fits32 y ≡ false
no_number y h = beyond y 2147483648 2147483647 (omega arith) (omega arith) h

-- ---- what follows the number

abbrev fit63 : Read ℤ → Answer (Read ℤ)
fit63 r = demand (leb (nat_abs r.value) most63) not_text (Gives r)

module _ (next : Read ℤ → Answer Fields) (out : (r : Read ℤ) → most63 < nat_abs r.value → next r ≡ Refused not_text) where
  lead-none : (a : Answer (Read ℤ)) → (a then fit63) ≡ Refused not_text → (a then next) ≡ Refused not_text
  lead-none (Gives r) e = split (leb (nat_abs r.value) most63) refl e
    where
      split : (t : Bool) → leb (nat_abs r.value) most63 ≡ t → demand t not_text (Gives r) ≡ Refused not_text → next r ≡ Refused not_text
      split true p q = let z : ◌≡◌ {A = ℕ} 0 1 = cc in absurd (omega arith)
      split false p q = out r (leb-false (nat_abs r.value) most63 p)
  lead-none (Refused n) e = let q : n ≡ not_text = cc in ap Refused q
  lead-none (RefusedAt n place) e = let z : ◌≡◌ {A = ℕ} 0 1 = cc in absurd (omega arith)

  lead-some : (a : Answer (Read ℤ)) (r : Read ℤ) → (a then fit63) ≡ Gives r → (a then next) ≡ next r
  lead-some (Gives q) r e = split (leb (nat_abs q.value) most63) e
    where
      split : (t : Bool) → demand t not_text (Gives q) ≡ Gives r → next q ≡ next r
      split true p = let same : q ≡ r = cc in ap next same
      split false p = let z : ◌≡◌ {A = ℕ} 0 1 = cc in absurd (omega arith)
  lead-some (Refused n) r e = let z : ◌≡◌ {A = ℕ} 0 1 = cc in absurd (omega arith)
  lead-some (RefusedAt n place) r e = let z : ◌≡◌ {A = ℕ} 0 1 = cc in absurd (omega arith)

  -- from what the code's call ensures: a refused leading number ends the reading, else what follows decides
  module _ (s : List ℕ) {lead : Option Leading} (is-led : leading_as s lead ≡ leading_number s) where
    pub led-none : lead ≡ None → (leading s then next) ≡ Refused not_text
    unfolding leading_number
    led-none e = lead-none (leading s) (sym is-led ∙ ap (leading_as s) e)

    pub led-some : {r : Leading} → lead ≡ Some r → (leading s then next) ≡ next (record { value = r.value; rest = drop r.next s })
    unfolding leading_number
    led-some e = lead-some (leading s) _ (sym is-led ∙ ap (leading_as s) e)
