-- The texts of a line: how a byte before or after, and a text after, add to what is written; and what each text is made of.
-- Assumes nothing.
use mathlib.Core.Path.{◌≡◌, ap}
use mathlib.Core.Bool.{true, false}
use mathlib.Core.List.{List, [], ◌∷◌, ◌++◌, append-nil}
use Prim.Native.Nat.{ℕ, ◌+◌, ◌-◌, ◌^◌, ◌≤◌, ◌<◌}
use native.Mathlib.Omega.{arith}
use borrow.Rule.Slice.PartMut.{put_mid}
use lib.Dec.{eqb}
use lib.ListN.{length, take, drop, set}
use Rattle.rules.specs.Kinds.{Kind}
use Rattle.rules.specs.Days.{counts_days}
use Rattle.rules.specs.Spelling.{decimal, dotted}
use Rattle.rules.specs.Listing.{letter, line_end}
use Rattle.rules.proofs.OnSpelling.DecimalLaws.{digits-most}
use Rattle.rules.proofs.OnSpelling.WriteLaws.{byte-tail, wrote, wrote-byte, wrote-part, wrote-placed}
use Rattle.requests.specs.GapReport.{spaced}
use Rattle.digits.specs.Places.{placed}
use Rattle.gap_report.specs.Walk.{Tallied, tally_steps, tally_rest, tally_line}

-- ---- what is written

-- what every writer of a line ensures: t, of n bytes and m at most, stands at the front of a buffer that held l₀ and holds l
abbrev Written : List ℕ → ℕ → ℕ → List ℕ → List ℕ → Type 0
Written t n m l₀ l = ((n ≡ length t) × (n ≤ m)) × (l ≡ placed t l₀)

-- the same of the text under another name, and of a higher bound
pub named : (l₀ : List ℕ) {l t u : List ℕ} {n m k : ℕ} → t ≡ u → m ≤ k → Written u n m l₀ l → Written t n k l₀ l
named l₀ e h w = rw e ((w.0.0, omega arith), w.1)

-- a byte stored before what a callee wrote that was lent `&mut l₀[1..]`
pub after-byte : (l₀ : List ℕ) {ys : List ℕ} {j m : ℕ} (b : ℕ) (u : List ℕ) → 0 < length l₀
    → Written u j m (take (length l₀ - 1) (drop 1 l₀)) ys → Written (b ∷ u) (1 + j) (1 + m) l₀ (set (put_mid 1 (length l₀ - 1) l₀ ys) 0 b)
after-byte l₀ b u r w = ((omega arith, omega arith), byte-tail l₀ u _ b r w.1)

module _ (l₀ : List ℕ) {l : List ℕ} {n m : ℕ} (t : List ℕ) (w : Written t n m l₀ l) where
  -- a text more, by a callee that was lent `&mut l[n..]`
  pub and-text : {ys : List ℕ} {j k : ℕ} (u : List ℕ) → m + k ≤ length l₀ → Written u j k (take (length l - n) (drop n l)) ys
      → Written (t ++ u) (n + j) (m + k) l₀ (put_mid n (length l - n) l ys)
  and-text u r v =
      let x = wrote-part u (wrote t l₀ w.0.0 (omega arith) w.1) v.0.0 (omega arith) v.1 in
      ((x.long, omega arith), wrote-placed x)

  -- a byte more, by a store
  pub and_byte : (b : ℕ) → m < length l₀ → Written (t ++ b ∷ []) (n + 1) (m + 1) l₀ (set l n b)
  and_byte b r =
      let x = wrote-byte b (wrote t l₀ w.0.0 (omega arith) w.1) (omega arith) in ((x.long, omega arith), wrote-placed x)

-- ---- numbers

-- one of 64 bits has at most 20 digits
pub digits-few : (n : ℕ) → n < 10 ^ 20 → length (decimal n) ≤ 20
digits-few n h = digits-most n h 19 h

-- ---- the texts with and without what stands in some lines only

abbrev pub dates_text : Kind → Tallied → List ℕ
dates_text k t = spaced (dotted k t.earliest) ++ spaced (dotted k t.latest)

abbrev pub count_text : Kind → Tallied → List ℕ
count_text k t = letter k ∷ spaced (decimal t.count)

module _ (k : Kind) (t : Tallied) where
  pub rest-counted : counts_days k ≡ true → tally_rest k t ≡ dates_text k t ++ tally_steps t
  unfolding tally_rest
  rest-counted e = rw e

  pub rest-uncounted : counts_days k ≡ false → tally_rest k t ≡ dates_text k t
  unfolding tally_rest
  rest-uncounted e = rw e (append-nil (dates_text k t))

  pub line-none : eqb t.count 0 ≡ true → tally_line k t ≡ count_text k t ++ line_end
  unfolding tally_line
  line-none e = rw e (ap (λ (x : List ℕ). x ++ line_end) (append-nil (count_text k t)))

  pub line-some : eqb t.count 0 ≡ false → tally_line k t ≡ count_text k t ++ tally_rest k t ++ line_end
  unfolding tally_line
  line-some e = rw e
