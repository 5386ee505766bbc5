-- Items copied into `&mut s[at..at + n]`, n of them, stand in s from `at` on. Assumes nothing.
use Rattle.std.proofs.Common.{◌≡◌, ℕ, ◌+◌, ◌-◌, ◌≤◌, List, append_assoc, length, take, drop, sym, ◌∙◌, arith}
use Rattle.std.proofs.Math.Seq.{sets, sets-eq, drop-drop}
use borrow.Rule.Slice.PartMut.{put_mid}

pub put-at : {X : Type 0} (s v : List X) (at : ℕ) → at + length v ≤ length s → put_mid at (at + length v - at) s v ≡ sets s at v
put-at s v at h =
    let e : at + length v - at ≡ length v = omega arith in
    rw (e, drop-drop) (sym (append_assoc (take at s) v (drop (at + length v) s)) ∙ sym (sets-eq v s at h))
