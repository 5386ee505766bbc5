-- A buffer in which room was made, or closed up: it is as long as it was, and what stands before and behind the change. Assumes nothing.
use mathlib.Core.Path.{◌≡◌, sym, ap, ◌∙◌}
use mathlib.Core.List.{List, ◌++◌, append_assoc}
use Prim.Native.Nat.{ℕ, ◌+◌, ◌-◌, ◌≤◌, ◌<◌}
use native.Mathlib.Omega.{arith}
use lib.ListN.{length, get_or, take, drop, replicate, length-append, length-drop, length-replicate, get_or-append}
use lib.Seq.{length-take-le, get_or-take, drop_at}
use Rattle.shifts.specs.Shifts.{opened, closed}

pub opened-length : (at end : ℕ) (v s : List ℕ) → at ≤ end → end + length v ≤ length s → length (opened at end v s) ≡ length s
unfolding opened
opened-length at end v s h l =
    let f : length (take at s) ≡ at = length-take-le at s (omega arith) in
    let g : length (take (end - at) (drop at s)) ≡ end - at = length-take-le (end - at) (drop at s) (rw length-drop (omega arith)) in
    simp (length-append, length-drop, f, g) (omega arith)

pub closed-length : (at end k : ℕ) (s : List ℕ) → at + k ≤ end → end ≤ length s → length (closed at end k s) ≡ length s
unfolding closed
closed-length at end k s h l =
    let f : length (take at s) ≡ at = length-take-le at s (omega arith) in
    let g : length (take (end - k - at) (drop (at + k) s)) ≡ end - k - at =
    length-take-le (end - k - at) (drop (at + k) s) (rw length-drop (omega arith)) in
    simp (length-append, length-drop, length-replicate, f, g) (omega arith)

-- ---- before the change: what starts with the first bytes of s has them

pub front_kept : (s y : List ℕ) (at i : ℕ) → i < at → at ≤ length s → get_or (take at s ++ y) i 0 ≡ get_or s i 0
front_kept s y at i h l =
    let f : length (take at s) ≡ at = length-take-le at s l in
    get_or-append (take at s) y 0 i (omega arith) ∙ get_or-take at s i 0 h

-- ---- behind it

pub opened_after : (at end : ℕ) (v s : List ℕ) → at ≤ end → end + length v ≤ length s → drop (end + length v) (opened at end v s) ≡ drop (end + length v) s
unfolding opened
opened_after at end v s h l =
    let f : length (take at s) ≡ at = length-take-le at s (omega arith) in
    let m = take (end - at) (drop at s) in
    let g : length m ≡ end - at = length-take-le (end - at) (drop at s) (rw length-drop (omega arith)) in
    let y = drop (end + length v) s in
    let flat : take at s ++ (v ++ (m ++ y)) ≡ (take at s ++ (v ++ m)) ++ y =
    ap (λ (x : List ℕ). take at s ++ x) (sym (append_assoc v m y)) ∙ sym (append_assoc (take at s) (v ++ m) y) in
    let long : length (take at s ++ (v ++ m)) ≡ end + length v = simp (length-append, f, g) (omega arith) in
    ap (drop (end + length v)) flat ∙ drop_at (take at s ++ (v ++ m)) y (end + length v) long

pub closed_after : (at end k : ℕ) (s : List ℕ) → at + k ≤ end → end ≤ length s → drop (end - k) (closed at end k s) ≡ replicate k 0 ++ drop end s
unfolding closed
closed_after at end k s h l =
    let f : length (take at s) ≡ at = length-take-le at s (omega arith) in
    let m = take (end - k - at) (drop (at + k) s) in
    let g : length m ≡ end - k - at = length-take-le (end - k - at) (drop (at + k) s) (rw length-drop (omega arith)) in
    let y = replicate k 0 ++ drop end s in
    let long : length (take at s ++ m) ≡ end - k = simp (length-append, f, g) (omega arith) in
    ap (drop (end - k)) (sym (append_assoc (take at s) m y)) ∙ drop_at (take at s ++ m) y (end - k) long
