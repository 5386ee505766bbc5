-- A text that was copied to the front of a room, and line ends that were filled in behind it. Assumes nothing.
use mathlib.Core.Path.{◌≡◌, sym, ap, ◌∙◌}
use mathlib.Core.List.{List, ◌++◌, append_assoc}
use Prim.Native.Nat.{ℕ, ◌+◌, ◌-◌, ◌≤◌}
use native.Mathlib.Omega.{arith}
use lib.ListN.{length, take, drop, replicate, length-append, length-drop, length-replicate}
use lib.Seq.{drop-drop, take_at, drop_at, take_all, length-take-le}
use borrow.Rule.Slice.PartMut.{mid_of, put_mid}
use Rattle.rules.proofs.OnSpelling.WriteLaws.{Wrote}

pub ends-behind : (t l₀ : List ℕ) {l ys : List ℕ} (n k : ℕ) → n ≡ length t → n + k ≤ length l₀ → l ≡ take n t ++ drop n l₀
    → ys ≡ replicate (length (mid_of n (n + k - n) l)) 10 → Wrote (t ++ replicate k 10) (n + k) l₀ (put_mid n (n + k - n) l ys)
ends-behind t l₀ {l} {ys} n k long room copied filled =
    let whole : l ≡ t ++ drop n l₀ = rw (take_all n t (omega arith)) at copied in
    let first : take n l ≡ t = ap (take n) whole ∙ take_at t _ n (sym long) in
    let after : drop n l ≡ drop n l₀ = ap (drop n) whole ∙ drop_at t _ n (sym long) in
    let count : n + k - n ≡ k = omega arith in
    let part : length (take k (drop n l₀)) ≡ k = length-take-le k (drop n l₀) (rw length-drop (omega arith)) in
    record {
      is = rw (filled, first, after, count, part, drop-drop, append_assoc);
      long = rw (length-append, length-replicate) (omega arith);
      room = room;
    }
