-- What two copies within a list come to. `paste s at t n` is s with the n elements from `at` replaced by t's first n. Assumes nothing.
use mathlib.Core.Path.{◌≡◌, sym, ap, ◌∙◌}
use mathlib.Core.List.{List, ◌++◌, append_assoc}
use Prim.Native.Nat.{ℕ, ◌+◌, ◌-◌, ◌≤◌}
use native.Mathlib.Omega.{arith}
use lib.ListN.{length, take, drop, replicate, length-drop, length-replicate}
use lib.Seq.{paste, drop-paste, take-paste, length-take-le, take-length, take_all, take-append-le, take-take, drop_at, drop-drop}
use Rattle.shifts.specs.Shifts.{opened, closed}

-- what stood at `at` was moved on by the length of v, and v was put there
pub opened-by : (s v s₁ s₂ : List ℕ) (at end : ℕ) → at ≤ end → end + length v ≤ length s → s₁ ≡ paste s (at + length v) (drop at s) (end - at)
    → s₂ ≡ paste s₁ at v (length v) → s₂ ≡ opened at end v s
unfolding opened
opened-by s v s₁ s₂ at end h l e f =
    let k = length v in
    let moved = take (end - at) (drop at s) ++ drop (at + k + (end - at)) s in
    let front : length (take (at + k) s) ≡ at + k = length-take-le (at + k) s (omega arith) in
    let flat : s₁ ≡ take (at + k) s ++ moved = e ∙ append_assoc (take (at + k) s) _ _ in
    let before : take at s₁ ≡ take at s =
    ap (take at) flat ∙ take-append-le at (take (at + k) s) moved (omega arith) ∙ take-take at (at + k) s (omega arith) in
    let after : drop (at + k) s₁ ≡ moved = ap (drop (at + k)) flat ∙ drop_at (take (at + k) s) moved (at + k) front in
    let z : at + k + (end - at) ≡ end + k = omega arith in
    f ∙ rw (before, after, take-length v, z) (append_assoc (take at s) v _)

-- what stood k bytes after `at` was moved there, and k zeros were put before `end`
closed_in : (s s₁ s₂ : List ℕ) (at m k : ℕ) → at + m + k ≤ length s → s₁ ≡ paste s at (drop (at + k) s) m
    → s₂ ≡ paste s₁ (at + m) (replicate k 0) k → s₂ ≡ take at s ++ (take m (drop (at + k) s) ++ (replicate k 0 ++ drop (at + m + k) s))
closed_in s s₁ s₂ at m k l e f =
    let d : length (drop (at + k) s) ≡ length s - (at + k) = length-drop (at + k) s in
    let before : take (at + m) s₁ ≡ take at s ++ take m (drop (at + k) s) =
    ap (take (at + m)) e ∙ take-paste s at (drop (at + k) s) m (omega arith) (omega arith) in
    let after : drop (at + m + k) s₁ ≡ drop (at + m + k) s =
    sym (drop-drop k (at + m) s₁) ∙ ap (λ (x : List ℕ). drop k (drop (at + m) x)) e
    ∙ ap (drop k) (drop-paste s at (drop (at + k) s) m (omega arith) (omega arith)) ∙ drop-drop k (at + m) s in
    let all : take k (replicate {A = ℕ} k 0) ≡ replicate k 0 = take_all k (replicate k 0) (omega (arith, length-replicate {A = ℕ} k 0)) in
    f ∙ rw (all, after, before) (append_assoc (take at s ++ take m (drop (at + k) s)) _ _ ∙ append_assoc (take at s) _ _)

pub closed-by : (s s₁ s₂ : List ℕ) (at end k : ℕ) → at + k ≤ end → end ≤ length s → s₁ ≡ paste s at (drop (at + k) s) (end - k - at)
    → s₂ ≡ paste s₁ (end - k) (replicate k 0) k → s₂ ≡ closed at end k s
unfolding closed
closed-by s s₁ s₂ at end k h l e f =
    let m = end - k - at in
    let z : end - k ≡ at + m = omega arith in
    let u : at + m + k ≡ end = omega arith in
    closed_in s s₁ s₂ at m k (omega arith) e (f ∙ ap (λ (n : ℕ). paste s₁ n (replicate k 0) k) z)
    ∙ ap (λ (n : ℕ). take at s ++ (take m (drop (at + k) s) ++ (replicate k 0 ++ drop n s))) u
