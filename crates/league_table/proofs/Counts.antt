-- The entries of a league among n that ascend, by the places of two keys; whether all are shared by the two; and what a league is told of a
-- change, by how many it had. Assumes nothing.
use mathlib.Core.Path.{◌≡◌, ◌∙◌}
use mathlib.Core.Bool.{Bool, true, false, ◌&&◌, ◌||◌}
use mathlib.Core.List.{List, [], ◌∷◌}
use Prim.Native.Nat.{ℕ, suc, ◌+◌, ◌/◌, ◌%◌, ◌≤◌, ◌<◌}
use native.Mathlib.Omega.{arith}
use borrow.Author.Tests.{eq-eqb, ne_eqb, le-leb, lt-leb, le-ltb}
use lib.Dec.{leb, ltb, eqb}
use lib.ListN.{length, drop}
use Rattle.std.specs.Prelude.{Result, Ok, Err, is_ok}
use Rattle.rules.specs.Words.{big_bytes}
use Rattle.rules.specs.Book.{head_size}
use Rattle.rules.proofs.OnBook.PieceLaws.{piece-count}
use Rattle.requests.specs.Entries.{some, ascends, place, standing}
use Rattle.requests.specs.FieldTable.{key_in}
use Rattle.requests.specs.Leagues.{key_for, own_key, own, all_owned, within_shares, share_most}
use Rattle.requests.proofs.OnEntries.PartLaws.{place-between, part-fewer}
use Rattle.requests.proofs.OnLeagues.OwnLaws.{owned-counts}
use Rattle.field_table.specs.Search.{entries_in, find_of}
use Rattle.field_table.proofs.Finds.{at-tells, absent-tells}

-- a key's three bytes, the league's first
pub three-bytes-of : (n : ℕ) → n < 16777216 → big_bytes 3 n ≡ n / 65536 ∷ n / 256 % 256 ∷ n % 256 ∷ []
unfolding big_bytes
three-bytes-of n h = let e : n / 256 / 256 % 256 ≡ n / 65536 = omega arith in rw e

-- ---- how many are a league's

module _ (league : ℕ) (rs : List (List ℕ)) where
  pub places : place (key_in 3) (key_for league 65535 + 1) rs ≡ place (key_in 3) (key_for league 1) rs + length (own league rs)
  places =
      let e : key_for league 65535 + 1 ≡ suc (key_for league 65535) = omega arith in
      rw e (place-between (key_in 3) (key_for league 1) (key_for league 65535) (omega arith) rs)

-- ---- n entries

module _ (n : ℕ) (s : List ℕ) where
  abbrev rs : List (List ℕ)
  rs = entries_in 3 n s

  many : length rs ≡ n
  many = piece-count n 4 (drop head_size s)

  pub fewer : (league : ℕ) → length (own league rs) ≤ n
  fewer league = omega (arith, part-fewer (key_in 3) (own_key league) rs, many)

  -- ---- whether they are shared, by the counts of the two leagues

  module _ (first second : ℕ) (p : first ≡ length (own 1 rs)) (q : second ≡ length (own 2 rs)) where
    owned : all_owned rs ≡ eqb (first + second) n
    owned = owned-counts rs ∙ rw (p, q, many)

    pub not-owned : (first + second ≡ n → ⊥) → false ≡ (all_owned rs && within_shares rs)
    not-owned h = rw (owned, ne_eqb (first + second) n h)

    pub first-over : first + second ≡ n → share_most < first → false ≡ (all_owned rs && within_shares rs)
    first-over h l = rw (owned, eq-eqb (first + second) n h, ← p, lt-leb first share_most l)

    pub then-second : first + second ≡ n → first ≤ share_most → leb second share_most ≡ (all_owned rs && within_shares rs)
    then-second h l = rw (owned, eq-eqb (first + second) n h, ← p, ← q, le-leb first share_most l)

  -- ---- whether a league may declare a key

  module _ (held key : ℕ) where
    abbrev May : Bool → Type 0
    May t = t ≡ (some (standing (key_in 3) key rs) || ltb held share_most)

    module _ (a : ascends (key_in 3) 0 rs ≡ true) where
      pub may-over : {i : ℕ} → Ok i ≡ find_of 3 key rs → May true
      may-over {i} e = rw (at-tells 3 n s key i a e).only

      pub may-not : {i : ℕ} → share_most ≤ held → Err i ≡ find_of 3 key rs → May false
      may-not {i} l e = rw ((absent-tells 3 n s key i a e).none, le-ltb held share_most l)

      -- by what the search answered
      pub may-find : (r : Result ℕ ℕ) → share_most ≤ held → r ≡ find_of 3 key rs → May (is_ok r)
      may-find (Ok i) l e = may-over e
      may-find (Err i) l e = may-not l e
