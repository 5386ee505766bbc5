-- The key of an entry from its bytes, byte by byte, and the kinds that a table allows. Assumes nothing.
use mathlib.Core.Path.{◌≡◌, refl, ap, ◌∙◌}
use mathlib.Core.Bool.{Bool, true, false, cond}
use mathlib.Core.List.{List}
use Prim.Native.Nat.{ℕ, zero, suc, ◌+◌, ◌*◌, ◌^◌, ◌≤◌, ◌<◌}
use native.Mathlib.Nat.{pow-suc, mul-le-mul_right}
use native.Mathlib.Numerals.{add-one}
use native.Mathlib.Omega.{arith}
use lib.Dec.{eqb}
use lib.ListN.{length, get_or, take, drop, length-drop}
use lib.Seq.{take-suc, take-take, get_or-drop}
use Rattle.rules.specs.Words.{big_endian}
use Rattle.rules.specs.Refusals.{Answer, Gives, Refused, RefusedAt, demand, given, not_of_kind}
use Rattle.rules.specs.Kinds.{Kind, kR, kD, kH, kU, kE, kV, kind_by}
use Rattle.rules.specs.Book.{kind_code, kind_of_code}
use Rattle.rules.proofs.OnWords.ByteLaws.{last_byte}
use Rattle.requests.specs.FieldTable.{bad_entry, key_in, kind_among}
use Rattle.kinds.specs.declared.Kind as Kinds
use Rattle.kinds.specs.Views.{kind_of}
use Rattle.std.specs.Bool.{then_some}
use Rattle.std.specs.Prelude.{Option, Some, None, is_some}
use Rattle.field_table.specs.Views.{allowed_as}
use Rattle.field_table.specs.Search.{Room}

-- ---- a key

-- one byte more
pub key_more : (s : List ℕ) (at i : ℕ) → at + i < length s →
    big_endian (take (i + 1) (drop at s)) ≡ big_endian (take i (drop at s)) * 256 + get_or s (at + i) 0
key_more s at i h =
    let l : i < length (drop at s) = rw length-drop (omega arith) in
    rw (add-one i, take-suc (drop at s) i 0 l, get_or-drop at s i 0) (last_byte (take i (drop at s)) (get_or s (at + i) 0))

pub key_above : (i key byte : ℕ) → key < 256 ^ i → byte < 256 → key * 256 + byte < 256 ^ (i + 1)
key_above i key byte h b = rw (add-one i, pow-suc 256 i) (omega arith)

-- the bytes of a key are those of its entry but the last
pub key-whole : (s : List ℕ) (at key_size : ℕ) → key_in key_size (take (key_size + 1) (drop at s)) ≡ big_endian (take key_size (drop at s))
unfolding key_in
key-whole s at key_size = ap big_endian (take-take key_size (key_size + 1) (drop at s) (omega arith))

-- so few bytes are a small number
pub power_small : (i : ℕ) → i ≤ 3 → 256 ^ i ≤ 16777216
power_small zero h = omega arith
power_small (suc zero) h = omega arith
power_small (suc (suc zero)) h = omega arith
power_small (suc (suc (suc zero))) h = omega arith
power_small (suc (suc (suc (suc i)))) h = absurd (omega arith)

-- entry i ends within the buffer
pub inside : {key_size n size : ℕ} → Room key_size n size → (i : ℕ) → i < n → 5 + i * (key_size + 1) + (key_size + 1) ≤ size
inside {key_size} {n} r i l =
    let f = r.fits in
    let m : (i + 1) * (key_size + 1) ≤ n * (key_size + 1) = mul-le-mul_right (key_size + 1) (let g : i + 1 ≤ n = omega arith in g) in
    omega arith

-- ---- a kind by its code, where another refusal stands for none

abbrev renumbered : ℕ → Answer Kind → Answer Kind
renumbered n (Gives k) = Gives k
renumbered n (Refused m) = Refused n
renumbered n (RefusedAt m place) = Refused n

on : (n : ℕ) (t : Bool) (k : Kind) (x : Answer Kind) → renumbered n (cond t (Gives k) x) ≡ cond t (Gives k) (renumbered n x)
on n true k x = refl
on n false k x = refl

renumber : (n m code : ℕ) → renumbered n (kind_by kind_code m code) ≡ kind_by kind_code n code
renumber n m code =
    on n (eqb code 1) kR _ ∙ ap (cond (eqb code 1) (Gives kR))
    (on n (eqb code 2) kD _ ∙ ap (cond (eqb code 2) (Gives kD))
    (on n (eqb code 3) kH _ ∙ ap (cond (eqb code 3) (Gives kH))
    (on n (eqb code 4) kU _ ∙ ap (cond (eqb code 4) (Gives kU))
    (on n (eqb code 5) kE _ ∙ ap (cond (eqb code 5) (Gives kE))
    (on n (eqb code 6) kV _)))))

module _ (allowed : Kind → Bool) (code : ℕ) where
  pub among : {k : Kind} (t : Bool) → t ≡ allowed k → Gives k ≡ kind_of_code code → kind_among allowed code ≡ demand t bad_entry (Gives k)
  unfolding kind_among kind_of_code
  among {k} t h e = rw (← (renumber bad_entry not_of_kind code), ← e, ← h)

  pub among_none : {n : ℕ} → Refused n ≡ kind_of_code code → kind_among allowed code ≡ Refused bad_entry
  unfolding kind_among kind_of_code
  among_none e = rw (← (renumber bad_entry not_of_kind code), ← e)

-- a kind that is told only where the test holds
pub told-where : (t : Bool) (k : Kinds.Kind) → allowed_as (then_some t k) ≡ demand t bad_entry (Gives (kind_of k))
told-where true k = refl
told-where false k = refl

-- a kind is given where there is one
pub given-some : (o : Option Kinds.Kind) → given (allowed_as o) ≡ is_some o
given-some (Some k) = refl
given-some None = refl
