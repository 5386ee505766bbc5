-- One row more of a script: it is done, or it fails. Assumes nothing.
use Rattle.std.proofs.Common.{◌≡◌, ℕ, suc, ◌<◌, List, Result, Ok, Err, length, take, drop, refl}
use Rattle.rows.specs.Rows.{row_length}
use Rattle.script.specs.Running.{InTurn}

pub turn-done : {F W E : Type 0} (call : F → W → List ℕ → Result (Unit {0}) E → F → W → Type 0) (n : ℕ) (f : F) (w : W) (script : List ℕ) (r : Result (Unit {0}) E) (f' : F) (w' : W)
    (q : Result (Unit {0}) E) (g : F) (v : W) → 0 < length script → q ≡ Ok tt → call f w (take (row_length script) script) q g v
    → InTurn call n g v (drop (row_length script) script) r f' w' → InTurn call (suc n) f w script r f' w'
turn-done call n f w script r f' w' q g v h e p rest = (h, q, g, v, p, rw e rest)

pub turn-failed : {F W E : Type 0} (call : F → W → List ℕ → Result (Unit {0}) E → F → W → Type 0) (f : F) (w : W) (script : List ℕ) (r : Result (Unit {0}) E)
    (e : E) (q : Result (Unit {0}) E) (g : F) (v : W) → 0 < length script → q ≡ Err e → r ≡ Err e → call f w (take (row_length script) script) q g v
    → InTurn call 1 f w script r g v
turn-failed call f w script r e q g v h is same p = (h, q, g, v, p, rw is (same, refl, refl))
