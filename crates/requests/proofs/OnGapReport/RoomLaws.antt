-- Every report fits in its room: no book has more than 4,096 records, no date's text more than 15 bytes, and the numbers of the steps are
-- bounded. Assumes nothing.
use mathlib.Core.Path.{◌≡◌}
use mathlib.Core.Bool.{true, cond}
use mathlib.Core.List.{List, [], ◌∷◌, ◌++◌, map}
use Prim.Native.Nat.{ℕ, suc, ◌+◌, ◌≤◌, ◌<◌}
use native.Mathlib.Omega.{arith}
use lib.IntN.{ℤ, pos, negsuc, nat_abs}
use lib.ListN.{length, length-append}
use Rattle.rules.specs.Refusals.{Gives}
use Rattle.rules.specs.Kinds.{Kind, kR, kD, kH, kU, kE, kV, of_kind}
use Rattle.rules.specs.Days.{counts_days}
use Rattle.rules.specs.Spelling.{decimal_in, decimal, dotted}
use Rattle.rules.specs.Book.{records}
use Rattle.rules.specs.Listing.{letter, line_end, joined}
use Rattle.rules.proofs.OnBook.FrameLaws.{then-met}
use Rattle.rules.proofs.OnBook.BookLaws.{found-holds}
use Rattle.rules.proofs.OnBook.EntryLaws.{version1-sensible}
use Rattle.rules.proofs.OnSpelling.DecimalLaws.{digits-most}
use Rattle.rules.proofs.OnSpelling.LengthLaws.{text-lengths}
use Rattle.requests.specs.Second.{version2}
use Rattle.requests.specs.Both.{version1_told, both}
use Rattle.requests.specs.Gaps.{Placed, placed_from, dates, earliest, latest, numbered, longest, steps_sum}
use Rattle.requests.specs.GapReport.{spaced, signed, steps_text, kind_text, kind_line, report_text, report, report_room}
use Rattle.requests.proofs.OnEntries.KeepLaws.{either}
use Rattle.requests.proofs.OnEntries.EachLaws.{Each}
use Rattle.requests.proofs.OnSecond.FieldEntryLaws.{version2-sensible}
use Rattle.requests.proofs.OnMoves.PassLaws.{each-changed}
use Rattle.requests.proofs.OnGaps.RecordLaws.{OfKind, placed-of-kind, placed-few, placed-before, each-version}
use Rattle.requests.proofs.OnGaps.EndLaws.{earliest-has, latest-has}
use Rattle.requests.proofs.OnGaps.ExactLaws.{farthest, longest-has, dates-each, step-most, sum-most}

-- ---- the numbers of a line

-- at most four digits, at most eight, and at most eight with a sign
four-digits : (n : ℕ) → n ≤ 4096 → length (decimal n) ≤ 4
four-digits n h = digits-most n (omega arith) 3 (omega arith)

eight-digits : (n : ℕ) → n ≤ farthest → length (decimal n) ≤ 8
eight-digits n h = digits-most n (omega arith) 7 (omega arith)

signed-digits : (z : ℤ) → nat_abs z ≤ farthest → length (signed z) ≤ 9
signed-digits (pos n) h = let s = eight-digits n h in omega arith
signed-digits (negsuc n) h = let s = eight-digits (suc n) h in omega arith

-- some records at places of a book
abbrev pub InBook : List Placed → Type 0
InBook ps = Each (λ (p : Placed). p.place < 4096) ps

-- "step, place, sum": a space and at most 8 digits, a space and 4, a space and 9 bytes
steps-long : (k : Kind) → counts_days k ≡ true → (p : Placed) (ps : List Placed) → OfKind k (p ∷ ps) → InBook (p ∷ ps) → length (steps_text p ps) ≤ 24
steps-long k c p ps h i =
    let step = longest (numbered p) (map numbered ps) in
    let at : step.place < 4096 =
    longest-has (λ q. q.place < 4096) (λ t. t.place < 4096) (λ a q. q) (λ a b x y. x) (numbered p) (map numbered ps) i.0
    (each-changed (λ q. q.place < 4096) numbered (λ q. q.place < 4096) (λ q l. l) ps i.1) in
    let a = eight-digits step.long (step-most k c p ps h) in
    let b = four-digits step.place (omega arith) in
    let d = signed-digits (steps_sum p.date (dates ps)) (sum-most k c p ps h) in
    simp length-append (omega arith)

-- ---- a line

-- a letter, a space and at most 4 digits, twice a space and 15 bytes, what follows these, and byte 10
parts-long : (x : ℕ) (count first last : List ℕ) → length count ≤ 4 → length first ≤ 15 → length last ≤ 15 →
    (n : ℕ) (rest : List ℕ) → length rest ≤ n → length ((x ∷ spaced count ++ spaced first ++ spaced last ++ rest) ++ line_end) ≤ 39 + n
parts-long x count first last a b c n rest d = simp length-append (omega arith)

-- D, E and V have 24 bytes more
abbrev pub line_room : Kind → ℕ
line_room k = cond (counts_days k) 63 39

none-long : (k : Kind) → length (kind_line k []) ≤ line_room k
unfolding kind_line kind_text decimal decimal_in
none-long k = either (counts_days k) (λ c. rw c (omega arith)) (λ c. rw c (omega arith))

some-long : (k : Kind) (p : Placed) (ps : List Placed) → OfKind k (p ∷ ps) → length (p ∷ ps) ≤ 4096 → InBook (p ∷ ps) →
    length (kind_line k (p ∷ ps)) ≤ line_room k
unfolding kind_line kind_text
some-long k p ps h n i =
    let f = p.date in
    let fs = dates ps in
    let each = dates-each k ps h.1 in
    let count = four-digits (length (p ∷ ps)) n in
    let first = (text-lengths k _ (earliest-has (λ g. of_kind k g ≡ true) f fs h.0 each)).dotted-length.1 in
    let last = (text-lengths k _ (latest-has (λ g. of_kind k g ≡ true) f fs h.0 each)).dotted-length.1 in
    let line : (m : ℕ) (rest : List ℕ) → length rest ≤ m → _ =
    parts-long (letter k) (decimal (length (p ∷ ps))) (dotted k (earliest f fs)) (dotted k (latest f fs)) count first last in
    either (counts_days k) (λ c. rw c (line 24 (steps_text p ps) (steps-long k c p ps h i))) (λ c. rw c (line 0 [] (omega arith)))

pub line-long : (k : Kind) (ps : List Placed) → OfKind k ps → length ps ≤ 4096 → InBook ps → length (kind_line k ps) ≤ line_room k
line-long k [] h n i = none-long k
line-long k (p ∷ ps) h n i = some-long k p ps h n i

-- ---- the report

-- "At most 4,096 records", of either version
pub few-records : (s : List ℕ) (rs : List (List ℕ)) → records (both s) s ≡ Gives rs → length rs ≤ 4096
few-records s rs =
    each-version (λ format. records format s ≡ Gives rs → length rs ≤ 4096)
    (λ e. (found-holds version2 version2-sensible s rs e).frame.most) (λ e. (found-holds version1_told version1-sensible s rs e).frame.most) s

module _ (s : List ℕ) (rs : List (List ℕ)) (e : records (both s) s ≡ Gives rs) where
  line-fits : (k : Kind) → length (kind_line k (placed_from (both s) k 0 rs)) ≤ line_room k
  line-fits k =
      let n = few-records s rs e in let m = placed-few (both s) k 0 rs in
      line-long k (placed_from (both s) k 0 rs) (placed-of-kind s k 0 rs) (omega arith) (placed-before (both s) k 0 4096 rs (omega arith))

  text-fits : length (report_text (both s) rs) ≤ report_room
  unfolding report_text joined
  text-fits =
      let r = line-fits kR in let d = line-fits kD in let h = line-fits kH in
      let u = line-fits kU in let e = line-fits kE in let v = line-fits kV in
      simp length-append (omega arith)

pub report-room : (s text : List ℕ) → report s ≡ Gives text → length text ≤ report_room
unfolding report
report-room s text e =
    let g = then-met (records (both s) s) (λ rs. Gives (report_text (both s) rs)) text e in
    let is : report_text (both s) g.value ≡ text = cc g.next in
    rw (← is) (text-fits s g.value g.is)
