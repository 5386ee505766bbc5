-- #110: n input bytes give at most 12 × n output bytes; for which inputs exactly so many; and for every n there is one. Assumes nothing.
use mathlib.Core.Path.{◌≡◌, refl, subst}
use mathlib.Core.Logic.{◌↔◌}
use mathlib.Core.Bool.{Bool, true, false, cond, ◌&&◌}
use mathlib.Core.List.{List, [], ◌∷◌, map}
use Prim.Native.Nat.{ℕ, zero, suc, ◌+◌, ◌*◌, ◌≤◌, ◌<◌}
use native.Mathlib.Omega.{arith}
use lib.Dec.{T, eqb}
use lib.ListN.{length, replicate, length-append, length-replicate}
use Rattle.rules.specs.Listing.{line_output, onto, lines, joined, input_limit, listing}
use Rattle.rules.proofs.OnListing.LineLaws.{unread-long, output-most, weights, lines-weigh, joined-long, lists, printed-long}
use Rattle.rules.proofs.OnKinds.KindLaws.{left, right}
use Rattle.requests.specs.ListingRoom.{one_byte_lines}

-- ---- at most 12 bytes for each

pub listing-room : (s : List ℕ) → length s ≤ input_limit → length (listing s) ≤ 12 * length s
listing-room s h = rw (lists s h) (printed-long s)

-- ---- exactly so many: how long the lines are, as one goes through the bytes

abbrev printed_length : List (List ℕ) → ℕ
printed_length ls = length (joined (map line_output ls))

first-line : (l : List ℕ) (ls : List (List ℕ)) → printed_length (l ∷ ls) ≡ length (line_output l) + printed_length ls
unfolding joined
first-line l ls = length-append (line_output l) (joined (map line_output ls))

-- a line of under four bytes
first-unread : (l : List ℕ) (ls : List (List ℕ)) → length l < 4 → printed_length (l ∷ ls) ≡ 12 + printed_length ls
first-unread l ls h = let e = unread-long l h in let f = first-line l ls in omega arith

-- a line of two bytes or more prints less than 12 for each
longer-line : (a b : ℕ) (l : List ℕ) → length (line_output (a ∷ b ∷ l)) < 12 * length (a ∷ b ∷ l)
longer-line a b [] = let e = unread-long (a ∷ b ∷ []) (omega arith) in omega arith
longer-line a b (c ∷ l) = let e = output-most (a ∷ b ∷ c ∷ l) in omega arith

-- a byte that begins a line, before lines that have a byte: there is some to spare
begun : (b n : ℕ) (ls : List (List ℕ)) → weights ls ≤ suc n → printed_length (onto b ls) < 12 * suc (suc n)
unfolding onto joined
begun b n [] h = let e = first-unread (b ∷ []) [] (omega arith) in omega arith
begun b n ([] ∷ ls) h = let e = first-unread (b ∷ []) ls (omega arith) in let j = joined-long ls in omega arith
begun b n ((c ∷ l) ∷ ls) h = let e = first-line (b ∷ c ∷ l) ls in let o = longer-line b c l in let j = joined-long ls in omega arith

-- one byte, whichever it is
one_byte : (b : ℕ) → printed_length (lines (b ∷ [])) ≡ 12
unfolding lines onto joined
one_byte b = by (eqb b 10)
  where
    by : (t : Bool) → printed_length (cond t ([] ∷ []) ((b ∷ []) ∷ [])) ≡ 12
    by true = first-unread [] [] (omega arith)
    by false = first-unread (b ∷ []) [] (omega arith)

-- ---- exactly so many where each byte but the last ends a line, and fewer elsewhere

meets : (s : List ℕ) → one_byte_lines s ≡ true → printed_length (lines s) ≡ 12 * length s
unfolding one_byte_lines lines joined
meets [] e = refl
meets (b ∷ []) e = one_byte b
meets (b ∷ c ∷ s) e =
    let p = meets (c ∷ s) (right (eqb b 10) (one_byte_lines (c ∷ s)) e) in
    rw (left (eqb b 10) (one_byte_lines (c ∷ s)) e) (let f = first-unread [] (lines (c ∷ s)) (omega arith) in omega arith)

-- one byte more before a byte: an empty line takes its 12, and any other byte begins a line
one_more : (b c : ℕ) (s : List ℕ) (t : Bool) → (one_byte_lines (c ∷ s) ≡ false → printed_length (lines (c ∷ s)) < 12 * length (c ∷ s))
    → t && one_byte_lines (c ∷ s) ≡ false → printed_length (cond t ([] ∷ lines (c ∷ s)) (onto b (lines (c ∷ s)))) < 12 * length (b ∷ c ∷ s)
one_more b c s true next e = let p = next e in let f = first-unread [] (lines (c ∷ s)) (omega arith) in omega arith
one_more b c s false next e = begun b (length s) (lines (c ∷ s)) (lines-weigh (c ∷ s))

spares : (s : List ℕ) → one_byte_lines s ≡ false → printed_length (lines s) < 12 * length s
unfolding one_byte_lines lines
spares [] e = absurd (subst T e tt)
spares (b ∷ []) e = absurd (subst T e tt)
spares (b ∷ c ∷ s) e = one_more b c s (eqb b 10) (spares (c ∷ s)) e

-- the inputs that leave none of 12 × n bytes to spare
pub room-met : (s : List ℕ) → length s ≤ input_limit → (length (listing s) ≡ 12 * length s) ↔ (one_byte_lines s ≡ true)
room-met s h = rw (lists s h) (met (one_byte_lines s) refl, meets s)
  where
    met : (t : Bool) → one_byte_lines s ≡ t → printed_length (lines s) ≡ 12 * length s → t ≡ true
    met true e q = refl
    met false e q = let p = spares s e in absurd (omega arith)

-- ---- for every n an input of n bytes: n empty lines

ends-only : (n : ℕ) → one_byte_lines (replicate n 10) ≡ true
unfolding one_byte_lines
ends-only zero = refl
ends-only (suc zero) = refl
ends-only (suc (suc n)) = ends-only (suc n)

pub room-reached : (n : ℕ) → n ≤ input_limit → length (listing (replicate n 10)) ≡ 12 * n
room-reached n h =
    let e = length-replicate {A = ℕ} n 10 in
    rw e at ((room-met (replicate n 10) (rw e h)).1 (ends-only n))
