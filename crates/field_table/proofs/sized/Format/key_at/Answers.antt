-- A byte more is a key more.
use Rattle.std.proofs.Common.{◌≡◌, ℕ, ◌+◌, ◌*◌, ◌-◌, ◌<◌, slice_index_or, take, drop, refl, sym, ap, ◌∙◌, arith}
use Rattle.std.proofs.Math.Seq.{get_or-take, get_or-drop}
use Rattle.rules.specs.Words.{big_endian}
use Rattle.field_table.proofs.Keys.{key_more, key_above, key-whole, power_small}
use Rattle.field_table.proofs.sized.Format.key_at.Goals as goal

pub loop-byte-init : goal.loop-byte-init
unfolding big_endian
loop-byte-init c = (refl, omega arith)

pub overflow_mul-key : goal.overflow_mul-key
overflow_mul-key c = omega (arith, power_small c.loop-byte.byte-index (omega arith))

pub overflow_add-key : goal.overflow_add-key
overflow_add-key c =
    let a = c.args in
    let i = c.loop-byte.byte-index in
    let n = a.at + a.self.key_size - a.at in
    let byte : slice_index_or (take n (drop a.at a.b.now)) i 0 ≡ slice_index_or a.b.now (a.at + i) 0 =
    get_or-take n (drop a.at a.b.now) i 0 (omega arith) ∙ get_or-drop a.at a.b.now i 0 in
    omega (arith, power_small i (omega arith), byte, c.type_inv.b (a.at + i))

pub loop-byte-preserved : goal.loop-byte-preserved
loop-byte-preserved c =
    let l = c.loop-byte in
    let a = c.args in
    let i = l.byte-index in
    let g = slice_index_or a.b.now (a.at + i) 0 in
    let n = a.at + a.self.key_size - a.at in
    let byte : slice_index_or (take n (drop a.at a.b.now)) i 0 ≡ g = get_or-take n (drop a.at a.b.now) i 0 (omega arith) ∙ get_or-drop a.at a.b.now i 0 in
    let small : g < 256 = omega (arith, c.type_inv.b (a.at + i)) in
    rw byte (
      ap (λ (x : ℕ). x * 256 + g) l.invariant.0 ∙ sym (key_more a.b.now a.at i (omega arith)),
      key_above i l.key g l.invariant.1 small,
    )

pub returns-clause-value : goal.returns-clause-value
returns-clause-value c =
    let l = c.loop-byte in
    let a = c.args in
    let e : l.byte-index ≡ a.self.key_size = omega arith in
    (rw e at l.invariant.0) ∙ sym (key-whole a.b.now a.at a.self.key_size)
