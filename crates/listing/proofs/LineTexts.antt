-- The printed lines byte by byte. Assumes nothing.
use mathlib.Core.Path.{◌≡◌, sym, ap}
use mathlib.Core.List.{List, [], ◌∷◌, ◌++◌}
use Prim.Native.Nat.{ℕ, ◌<◌}
use lib.ListN.{length, drop}
use Rattle.rules.specs.Words.{bytes}
use Rattle.rules.specs.Spelling.{digit}
use Rattle.rules.specs.Listing.{refused_text, line_end}
use Rattle.rules.proofs.OnSpelling.DecimalLaws.{one-digit}

-- a refusal of one digit
pub refusal-line : (front n : ℕ) → n < 10 → refused_text front n ++ line_end ≡ (front ∷ bytes " refused ") ++ digit n ∷ [] ++ 10 ∷ []
refusal-line front n h = rw (one-digit n h)

-- a text placed in a buffer, under another name of it
pub placed-as : (l : List ℕ) {t u : List ℕ} → t ≡ u → u ++ drop (length u) l ≡ t ++ drop (length t) l
placed-as l e = ap (λ (x : List ℕ). x ++ drop (length x) l) (sym e)
