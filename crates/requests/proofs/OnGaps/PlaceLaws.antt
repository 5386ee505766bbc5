-- The place told with a record of a kind is that of the very record: what stands there is of the kind, and its date is the one told. The
-- places ascend strictly, so that no record is told of twice. Assumes nothing.
use mathlib.Core.Path.{◌≡◌, refl}
use mathlib.Core.Bool.{true}
use mathlib.Core.List.{List, [], ◌∷◌}
use Prim.Native.Nat.{ℕ, suc, ◌+◌}
use native.Mathlib.Nat.{zero-add}
use native.Mathlib.Omega.{arith}
use Rattle.rules.specs.Refusals.{Answer, Gives, Refused, RefusedAt, ◌then◌}
use Rattle.rules.specs.Kinds.{Kind, unpacked}
use Rattle.rules.specs.Book.{Format, records, pick, record_at, entry_at}
use Rattle.requests.specs.Entries.{ascends}
use Rattle.requests.specs.Second.{FieldEntry}
use Rattle.requests.specs.Gaps.{Placed, same_kind, if_of_kind, placed_from}
use Rattle.requests.proofs.OnEntries.KeepLaws.{either}
use Rattle.requests.proofs.OnEntries.EachLaws.{Each}
use Rattle.requests.proofs.OnEntries.OrderLaws.{and_then, lower}
use Rattle.requests.proofs.OnGaps.RecordLaws.{kept-each}

-- ---- what stands at the place

-- an answer gives an entry of the kind, whose date is the one told
pub record Tells (x : Answer FieldEntry) (k : Kind) (p : Placed) : Type 0 where
  pub entry : FieldEntry
  pub gives : x ≡ Gives entry
  pub kind : entry.kind ≡ k
  pub date : unpacked entry.date ≡ p.date

module _ (format : Format FieldEntry) (k : Kind) where
  -- over what is answered at each place, from a place on
  told_at : (at : ℕ → Answer (List ℕ)) (place : ℕ) (rs : List (List ℕ)) → ((i : ℕ) → at (place + i) ≡ pick rs i) →
      Each (λ (p : Placed). Tells (at p.place then format.entry) k p) (placed_from format k place rs)
  unfolding placed_from pick
  told_at at place [] h = tt
  told_at at place (r ∷ rs) h =
      kept-each _ k place (format.entry r) (placed_from format k (suc place) rs)
      (λ e g j. record { entry = e; gives = here e g; kind = j; date = refl }) (told_at at (suc place) rs next)
    where
      here : (e : FieldEntry) → format.entry r ≡ Gives e → (at place then format.entry) ≡ Gives e
      here e g = let z : place + 0 ≡ place = omega arith in let f : at place ≡ Gives r = rw z at (h 0) in rw f g

      next : (i : ℕ) → at (suc place + i) ≡ pick rs i
      next i = let z : suc place + i ≡ place + suc i = omega arith in rw z (h (suc i))

  -- among some records
  pub placed-there : (rs : List (List ℕ)) → Each (λ (p : Placed). Tells (pick rs p.place then format.entry) k p) (placed_from format k 0 rs)
  placed-there rs = told_at (pick rs) 0 rs (λ i. rw zero-add)

  -- in a book: "record at a place from 0 (gives its kind and date)"
  pub placed-in-book : (s : List ℕ) (rs : List (List ℕ)) → records format s ≡ Gives rs →
      Each (λ (p : Placed). Tells (entry_at format s p.place) k p) (placed_from format k 0 rs)
  unfolding entry_at record_at
  placed-in-book s rs e = told_at (record_at format s) 0 rs (λ i. rw (zero-add, e))

-- ---- no place is told twice

-- a record's place, counted from 1
abbrev pub ordinal : Placed → ℕ
ordinal p = suc p.place

-- those after a place ascend from it on too
from-before : (place : ℕ) (later : List Placed) → ascends ordinal (suc place) later ≡ true → ascends ordinal place later ≡ true
from-before place later h = lower ordinal place (suc place) later (omega arith) h

kept-ascends : (k : Kind) (place : ℕ) (x : Answer FieldEntry) (later : List Placed) →
    ascends ordinal (suc place) later ≡ true → ascends ordinal place (if_of_kind k place x later) ≡ true
kept-ascends k place (Gives e) later h =
    either (same_kind k e.kind) (λ t. rw t (and_then ordinal place _ later (omega arith) h)) (λ t. rw t (from-before place later h))
kept-ascends k place (Refused n) later h = from-before place later h
kept-ascends k place (RefusedAt n bad) later h = from-before place later h

-- the places ascend strictly, from a place on
pub places-ascend : (format : Format FieldEntry) (k : Kind) (place : ℕ) (rs : List (List ℕ)) →
    ascends ordinal place (placed_from format k place rs) ≡ true
unfolding placed_from ascends
places-ascend format k place [] = refl
places-ascend format k place (r ∷ rs) = kept-ascends k place (format.entry r) _ (places-ascend format k (suc place) rs)
