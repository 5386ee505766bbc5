-- Laws of the rows: the end of a row, a word byte by byte, the digits of a number, the length of a row. Assumes nothing.
use mathlib.Core.Path.{◌≡◌, refl}
use mathlib.Core.Bool.{Bool, true, false}
use mathlib.Core.List.{List}
use Prim.Native.Nat.{ℕ, ◌+◌, ◌*◌, ◌-◌, ◌^◌, ◌≤◌, ◌<◌, min}
use native.Mathlib.Nat.{one-le-pow, le-mul_of_pos_right}
use native.Mathlib.Omega.{arith}
use lib.Dec.{leb, lit<}
use lib.ListN.{length, get_or, drop, length-drop}
use borrow.Author.Tests.{le-leb, lt-leb}
use Rattle.spans.specs.Bytes.{slice, index_of}
use Rattle.rules.specs.Refusals.{Gives, Refused, ◌then◌, demand, not_text}
use Rattle.rules.specs.Text.{Read, digits, after_digits}
use Rattle.rules.proofs.Shared.Rests.{here, to_end}
use Rattle.scalar.specs.Number.{most63, value_from, partial_of}
use Rattle.scalar.proofs.Laws.{goes_on, stops-low, stops-high, stops_end}
use Rattle.rows.specs.Rows.{after_byte, after_word, most_of_row, row_digits, row_length}

-- ---- a value read, and the rest of the row

pub read_of : {A : Type 0} {a b : A} (s : List ℕ) → a ≡ b → ◌≡◌ {A = Read A} (record { value = a; rest = s }) (record { value = b; rest = s })
read_of s e = λ i. record { value = e i; rest = s }

-- ---- the end of a row

-- ---- a word, byte by byte

pub word-goes-on : (w : List ℕ) (i : ℕ) (s : List ℕ) → i < length w → after_word (drop i w) s ≡ after_word (drop (i + 1) w) (after_byte (get_or w i 0) s)
word-goes-on w i s h = rw (here w i h)

-- ---- the digits of a number

-- a digit goes on
pub digit-goes-on : (v : ℕ) (s : List ℕ) (i : ℕ) → i < length s → 48 ≤ get_or s i 0 → get_or s i 0 ≤ 57 →
    row_digits v (drop i s) ≡ row_digits (v * 10 + (get_or s i 0 - 48)) (drop (i + 1) s)
unfolding row_digits
digit-goes-on v s i h l k = rw (goes_on v s i h l k)

-- no digit, or nothing, ends it
pub digit_low : (v : ℕ) (s : List ℕ) (i : ℕ) → v ≤ most_of_row → i < length s → get_or s i 0 < 48 →
    row_digits v (drop i s) ≡ Gives (record { value = v; rest = drop i s })
unfolding row_digits
digit_low v s i m h l = rw (stops-low v s i (omega arith) h l, le-leb v most_of_row m)

pub digit-high : (v : ℕ) (s : List ℕ) (i : ℕ) → v ≤ most_of_row → i < length s → 48 ≤ get_or s i 0 → 57 < get_or s i 0 →
    row_digits v (drop i s) ≡ Gives (record { value = v; rest = drop i s })
unfolding row_digits
digit-high v s i m h l k = rw (stops-high v s i (omega arith) h l k, le-leb v most_of_row m)

pub digit-end : (v : ℕ) (s : List ℕ) (i : ℕ) → v ≤ most_of_row → length s ≤ i → row_digits v (drop i s) ≡ Gives (record { value = v; rest = drop i s })
unfolding row_digits
digit-end v s i m h = rw (stops_end v s i (omega arith) h, le-leb v most_of_row m)

-- what is too large stays so, whatever digits follow
too-large-by : (t : Bool) (r : Read ℕ) → most_of_row < r.value →
    (demand t not_text (Gives r) then λ q. demand (leb q.value most_of_row) not_text (Gives q)) ≡ Refused not_text
too-large-by true r h = rw (lt-leb r.value most_of_row h)
too-large-by false r h = refl

pub digit-too-large : (v : ℕ) (s : List ℕ) → most_of_row < v → row_digits v s ≡ Refused not_text
unfolding row_digits partial_of
digit-too-large v s h =
    let p = le-mul_of_pos_right {m = 10 ^ length (digits s)} v (one-le-pow (length (digits s)) 10 (lit< tt)) in
    too-large-by (leb (value_from v s) most63) (record { value = value_from v s; rest = after_digits s }) (omega arith)

-- ---- the rows of a file

-- the row from a place on, by where byte 10 is found from there
pub row_from : (s : List ℕ) (i : ℕ) → row_length (drop i s) ≡ min (index_of 10 (slice i (length s) s) + 1) (length s - i)
unfolding row_length
row_from s i = rw (to_end s i, length-drop)
