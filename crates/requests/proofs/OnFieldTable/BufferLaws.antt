-- A buffer whose entries were changed, once their length is written before them, is what the definitions say. Over the table's format.
-- Assumes nothing.
use mathlib.Core.Path.{◌≡◌, refl, sym, ap, ◌∙◌}
use mathlib.Core.List.{List, ◌∷◌, ◌++◌, append_assoc}
use Prim.Native.Nat.{ℕ, ◌+◌, ◌*◌, ◌≤◌}
use native.Mathlib.Omega.{arith}
use lib.ListN.{length, drop, replicate}
use lib.Seq.{sets, sets-eq}
use Rattle.rules.specs.Words.{big_bytes}
use Rattle.rules.specs.Refusals.{Gives}
use Rattle.rules.specs.Book.{length_size, head_size, version_of, pieces}
use Rattle.rules.proofs.OnWords.ByteLaws.{byte-count}
use Rattle.rules.proofs.OnBook.PieceLaws.{piece-count}
use Rattle.requests.specs.Laid.{joined, laid}
use Rattle.requests.specs.FieldTable.{TableFormat, entry_size, table_frame, counted, table_buffer}
use Rattle.requests.proofs.OnLaid.LaidLaws.{laid-over}

module _ (table : TableFormat) (m freed : ℕ) (s u : List ℕ) (rs : List (List ℕ))
    (fits : head_size + m * entry_size table ≤ length u) (are : pieces m (entry_size table) (drop head_size u) ≡ rs) where
  abbrev k : ℕ
  k = entry_size table

  abbrev four : List ℕ
  four = big_bytes length_size (1 + m * k)

  pub many : length rs ≡ m
  many = ap length (sym are) ∙ piece-count m k (drop head_size u)

  pub relaid-count : Gives m ≡ counted (Gives rs)
  unfolding counted
  relaid-count = ap Gives (sym many)

  pub relaid : version_of u ≡ table.version → drop (head_size + m * k) u ≡ replicate freed 0 ++ drop (head_size + m * k + freed) s →
      sets u 0 four ≡ table_buffer table freed (Gives rs) s
  unfolding table_buffer laid
  relaid v e =
      let c = byte-count length_size (1 + m * k) in
      let b : sets u 0 four ≡ four ++ drop length_size u = sets-eq four u 0 (omega arith) ∙ rw c in
      b ∙ laid-over (table_frame table) m u fits v ∙ rw (are, e, many) (sym (append_assoc four (table.version ∷ joined rs) _))
