-- The lines of an input, one after the other; and how long a listing can be. Assumes nothing.
use mathlib.Core.Path.{◌≡◌, refl, ap}
use mathlib.Core.Bool.{Bool, true, false, cond}
use mathlib.Core.List.{List, [], ◌∷◌, ◌++◌, map}
use Prim.Native.Nat.{ℕ, suc, ◌+◌, ◌*◌, ◌≤◌, ◌<◌}
use native.Mathlib.Omega.{arith}
use borrow.Author.Tests.{le-leb, lt-leb, leb-true, leb-false}
use lib.Dec.{leb, eqb}
use lib.ListN.{length, take, drop, length-append}
use Rattle.spans.specs.Bytes.{index_after, index_of}
use Rattle.rules.specs.Words.{byte, bytes}
use Rattle.rules.specs.Refusals.{Answer, unreadable_line}
use Rattle.rules.specs.Kinds.{Kind, Fields}
use Rattle.rules.specs.Listing.{Line, Way, letter, read_line, refused_text, date_text, request_text, line_end, line_output, onto, lines, joined, input_limit, listing}
use Rattle.rules.proofs.OnSpelling.DecimalLaws.{one-digit}
use Rattle.rules.proofs.OnSpelling.LengthLaws.{text-lengths}
use Rattle.rules.proofs.OnRefusals.OutcomeLaws.{Outcome, gives, refuses, Dated}
use Rattle.rules.proofs.OnListing.RefusalLaws.{RefusedBy, one-digit-by, date-outcome, Asked, outcome-request}

-- ---- the first line

-- the place of a text's first byte 10, or its length
abbrev pub end_of : List ℕ → ℕ
end_of s = index_of 10 s

first_step : (b : ℕ) (s : List ℕ) (t : Bool) → onto b (lines s) ≡ (b ∷ take (end_of s) s) ∷ lines (drop (suc (end_of s)) s)
    → cond t ([] ∷ lines s) (onto b (lines s)) ≡ take (index_after t (end_of s)) (b ∷ s) ∷ lines (drop (suc (index_after t (end_of s))) (b ∷ s))
unfolding index_after
first_step b s true e = refl
first_step b s false e = e

-- the first line, and the lines after its end
pub lines-first : (b : ℕ) (s : List ℕ) → lines (b ∷ s) ≡ take (end_of (b ∷ s)) (b ∷ s) ∷ lines (drop (suc (end_of (b ∷ s))) (b ∷ s))
unfolding lines index_of onto
lines-first b [] = first_step b [] (eqb b 10) refl
lines-first b (c ∷ s) = first_step b (c ∷ s) (eqb b 10) (ap (onto b) (lines-first c s))

-- ---- how long the output of a line is

-- a line's bytes, and 1 for an empty line
abbrev pub weight : List ℕ → ℕ
weight [] = 1
weight (b ∷ l) = suc (length l)

refused-long : (front n : ℕ) → n < 10 → length (refused_text front n) ≡ 11
refused-long front n h = rw (one-digit n h)

-- at most 33 bytes for a date
date-long : (k : Kind) (w : Way) {a : Answer Fields} → Outcome (RefusedBy w) (Dated k) a → length (date_text k a) ≤ 33
unfolding date_text
date-long k w (gives {a = f} p) = let t = text-lengths k f p in let d = t.dotted-length in let i = t.iso-length in simp length-append (omega arith)
date-long k w (refuses {n = n} r) = let e = refused-long (letter k) n (one-digit-by w n r) in omega arith

request-long : {a : Answer Line} → Outcome (λ n. n ≡ unreadable_line) Asked a → length (request_text a) ≤ 33
unfolding request_text
request-long (gives {a = l} has) = date-long l.kind l.way (date-outcome l.way l.kind l.rest has)
request-long (refuses {n = n} e) = let r = refused-long (byte "?") n (omega arith) in omega arith

-- a line of under four bytes is not read: 12 bytes say so
pub unread-long : (l : List ℕ) → length l < 4 → length (line_output l) ≡ 12
unfolding line_output read_line request_text
unread-long [] h = let e = refused-long (byte "?") 8 (omega arith) in simp length-append (omega arith)
unread-long (a ∷ []) h = let e = refused-long (byte "?") 8 (omega arith) in simp length-append (omega arith)
unread-long (a ∷ b ∷ []) h = let e = refused-long (byte "?") 8 (omega arith) in simp length-append (omega arith)
unread-long (a ∷ b ∷ c ∷ []) h = let e = refused-long (byte "?") 8 (omega arith) in simp length-append (omega arith)
unread-long (a ∷ b ∷ c ∷ d ∷ rest) h = absurd (omega (arith, h))

-- no line prints over 34 bytes
pub output-most : (l : List ℕ) → length (line_output l) ≤ 34
unfolding line_output
output-most l = let e = request-long (outcome-request refl l) in simp length-append (omega arith)

-- at most 12 for each byte
pub output-long : (l : List ℕ) → length (line_output l) ≤ 12 * weight l
output-long [] = let e = unread-long [] (omega arith) in omega arith
output-long (a ∷ []) = let e = unread-long (a ∷ []) (omega arith) in omega arith
output-long (a ∷ b ∷ []) = let e = unread-long (a ∷ b ∷ []) (omega arith) in omega arith
output-long (a ∷ b ∷ c ∷ rest) = let e = output-most (a ∷ b ∷ c ∷ rest) in omega arith

-- ---- how long a listing is

abbrev pub weights : List (List ℕ) → ℕ
weights [] = 0
weights (l ∷ ls) = weight l + weights ls

pub lines-weigh : (s : List ℕ) → weights (lines s) ≤ length s
unfolding lines onto
lines-weigh [] = omega arith
lines-weigh (b ∷ s) = split (eqb b 10) (lines s) (lines-weigh s)
  where
    split : (t : Bool) (ls : List (List ℕ)) → weights ls ≤ length s → weights (cond t ([] ∷ ls) (onto b ls)) ≤ suc (length s)
    split true ls h = omega arith
    split false [] h = omega arith
    split false ([] ∷ ls) h = omega arith
    split false ((c ∷ l) ∷ ls) h = omega arith

pub joined-long : (ls : List (List ℕ)) → length (joined (map line_output ls)) ≤ 12 * weights ls
unfolding joined
joined-long [] = omega arith
joined-long (l ∷ ls) = let e = output-long l in let f = joined-long ls in rw length-append (omega arith)

-- an input that is not too long, and one that is
pub lists : (s : List ℕ) → length s ≤ input_limit → listing s ≡ joined (map line_output (lines s))
unfolding listing
lists s h = rw (le-leb _ _ h)

pub lists-none : (s : List ℕ) → input_limit < length s → listing s ≡ bytes "input too long" ++ line_end
unfolding listing
lists-none s h = rw (lt-leb _ _ h)

-- 12 bytes for each byte of an input
pub printed-long : (s : List ℕ) → length (joined (map line_output (lines s))) ≤ 12 * length s
printed-long s = let j = joined-long (lines s) in let w = lines-weigh s in omega arith

-- and of the longest input
pub listing-long : (s : List ℕ) → length (listing s) ≤ 786420
listing-long s = by (leb (length s) input_limit) refl
  where
    by : (t : Bool) → leb (length s) input_limit ≡ t → length (listing s) ≤ 786420
    by true e = let h = leb-true (length s) input_limit e in let p = printed-long s in rw (lists s h) (omega arith)
    by false e = rw (lists-none s (leb-false (length s) input_limit e)) (omega arith)
