-- A script, row by row. Assumes nothing.
use Rattle.std.specs.Prelude.{◌≡◌, ℕ, zero, suc, ◌<◌, List, [], Result, Ok, Err, MatchResult, length, take, drop}
use denote.Ref.{Bor, MutBor}
use Rattle.rows.specs.Rows.{row_length}

-- a call with a writer and a row: the closure and the writer before it, the row, what it gives, and both after it
abbrev pub CallsAt : {F W R : Type 0} → (F → MutBor W → Bor (List ℕ) → R → MutBor W → F → Type 0) → F → W → List ℕ → R → F → W → Type 0
CallsAt {F} {W} step f w row r f' w' =
    (o : MutBor W) × (s : Bor (List ℕ)) × (o' : MutBor W) × (o.now ≡ w) × (s.now ≡ row) × (o'.now ≡ w') × step f o s r o' f'

-- a call for each of n rows in turn, which are all of the script, or up to the one that fails
abbrev pub InTurn : {F W E : Type 0} → (F → W → List ℕ → Result (Unit {0}) E → F → W → Type 0) → ℕ → F → W → List ℕ → Result (Unit {0}) E → F → W → Type 0
InTurn call zero f w script r f' w' = (script ≡ []) × (r ≡ Ok tt) × (f' ≡ f) × (w' ≡ w)
InTurn {F} {W} {E} call (suc n) f w script r f' w' =
    (0 < length script) × (q : Result (Unit {0}) E) × (g : F) × (v : W) × call f w (take (row_length script) script) q g v
    × MatchResult q (λ _. InTurn call n g v (drop (row_length script) script) r f' w') (λ e. (r ≡ Err e) × (f' ≡ g) × (w' ≡ v))
