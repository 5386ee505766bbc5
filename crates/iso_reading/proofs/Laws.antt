-- The steps of reading an ISO text, as the code takes them. Assumes nothing.
use mathlib.Core.Path.{◌≡◌}
use mathlib.Core.Bool.{true}
use mathlib.Core.List.{List}
use Prim.Native.Nat.{ℕ, ◌≤◌, ◌<◌}
use native.Mathlib.Omega.{arith}
use lib.ListN.{length, take, drop}
use Rattle.std.specs.Prelude.{Result}
use Rattle.rules.specs.Refusals.{Gives, ◌then◌, given}
use Rattle.rules.specs.Kinds.{Kind, Stored, unpacked, handed, of_date}
use Rattle.rules.specs.Text.{one_or_two}
use Rattle.rules.specs.Spelling.{iso}
use Rattle.rules.proofs.OnKinds.PackLaws.{handed-by, handed-tells}
use Rattle.rules.proofs.OnSpelling.LengthLaws.{Sized, text-lengths}
use Rattle.rules.proofs.Shared.Rests.{here, past}
use Rattle.requests.specs.IsoReader.{named_hour, iso_hour_after}
use Rattle.formatter.specs.Views.{length_of}
use Rattle.refusals.specs.declared.Refusal.{Refusal}
use Rattle.formatter.proofs.Texts.{Done, Fits, fits, taken}

-- ---- the hour after the day

module _ (k : Kind) (s : List ℕ) (i : ℕ) where
  pub no-hour : length s ≤ i → iso_hour_after k (drop i s) ≡ Gives 0
  unfolding iso_hour_after
  no-hour h = rw (past s i h)

  pub an-hour : i < length s → iso_hour_after k (drop i s) ≡ (one_or_two (drop 1 (drop i s)) then λ hour. Gives (named_hour k hour.value))
  unfolding iso_hour_after
  an-hour h = rw (here s i h)

-- ---- a date's own text, in a buffer that has room for it

module _ (k : Kind) (d : Stored) (l₀ l : List ℕ) (r : Result ℕ Refusal) (room : 15 ≤ length l₀)
    (done : Done (of_date k d (λ f. Gives (iso k f))) l₀ r l)
    (of-kind : given (handed k d) ≡ true)
  where
    sized : Sized 5 15 (iso k (unpacked d))
    sized = (text-lengths k (unpacked d) (handed-tells k d (unpacked d) (handed-by k d of-kind)).of-kind).iso-length

    written : Fits (iso k (unpacked d)) l₀ r l
    written = fits k d (iso k) l₀ l r of-kind room (λ p. sized.1) done

    -- it stands at the front
    pub own-text : take (length_of r) l ≡ iso k (unpacked d)
    own-text = taken (iso k (unpacked d)) _ l (length_of r) written.answered.0 written.holds

    -- it has bytes, so that it is not refused
    pub not-refused : {A : Type 0} → length_of r ≡ 0 → A
    not-refused e = let s = sized in let w = written.answered.0 in absurd (omega arith)
