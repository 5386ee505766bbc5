-- The answer is determined: the rest of the text fixes the place after the number, since that is at most the text's length.
-- Assumes nothing.
use mathlib.Core.Path.{◌≡◌, refl, ap}
use mathlib.Core.List.{List}
use Prim.Native.Nat.{ℕ, ◌-◌, ◌≤◌}
use native.Mathlib.Omega.{arith}
use lib.IntN.{ℤ}
use lib.ListN.{length, length-drop}
use Rattle.rules.specs.Refusals.{Answer}
use Rattle.rules.specs.Text.{Read}
use Rattle.rules.proofs.OnRefusals.Determined.{same_back, back_one}
use Rattle.scalar.specs.declared.Leading.{Leading}
use Rattle.std.specs.Prelude.{Option, Some, None}
use Rattle.scalar.specs.Views.{leading_as, next_of}

module _ (s : List ℕ) where
  -- a rest of s starts where its length is left
  abbrev led_back : Answer (Read ℤ) → Option Leading
  led_back = back_one (λ (r : Read ℤ). Some (record { value = r.value; next = length s - length r.rest })) None

  led-back : (r : Option Leading) → next_of r ≤ length s → led_back (leading_as s r) ≡ r
  led-back (Some r) h = ap (λ (n : ℕ). Some (record { value = r.value; next = n })) (omega (arith, length-drop r.next s))
  led-back None h = refl

  pub led-determined : (r q : Option Leading) (x : Answer (Read ℤ)) →
      (leading_as s r ≡ x) × (next_of r ≤ length s) → (leading_as s q ≡ x) × (next_of q ≤ length s) → r ≡ q
  led-determined r q x e f = same_back (leading_as s) led_back (led-back r e.1) (led-back q f.1) e.0 f.0
