-- The records of a kind: each is a date of the kind and stands in the book, there are no more than the book has, and each record of a book
-- is told of exactly once. Assumes nothing.
use mathlib.Core.Path.{◌≡◌, refl, sym, ap, subst, ◌∙◌}
use mathlib.Core.Bool.{true}
use mathlib.Core.List.{List, [], ◌∷◌}
use Prim.Native.Nat.{ℕ, suc, ◌+◌, ◌≤◌, ◌<◌}
use native.Mathlib.Omega.{arith}
use borrow.Author.Tests.{eqb-true}
use lib.Dec.{T, eqb}
use lib.ListN.{length, get_or}
use Rattle.rules.specs.Refusals.{Answer, Gives, Refused, RefusedAt, given, not_of_kind, bad_record}
use Rattle.rules.specs.Kinds.{Kind, kR, kD, kH, kU, kE, kV, Stored, of_kind, mark_of, no_mark, unpacked, handed}
use Rattle.rules.specs.Book.{Format, sound_by, framed, all_pass, records, version_of, kind_code, kind_of_code, unmarked_date, entry_from, entry_of}
use Rattle.rules.proofs.OnKinds.PackLaws.{handed-back, handed-by, handed-tells}
use Rattle.rules.proofs.OnBook.FrameLaws.{demand-met, then-met}
use Rattle.rules.proofs.OnBook.BookLaws.{pass-met}
use Rattle.rules.proofs.OnBook.EntryLaws.{code-back}
use Rattle.requests.specs.Entries.{kept_if}
use Rattle.requests.specs.Second.{FieldEntry, stored_from, field_in, date_in, field_entry_of, version2}
use Rattle.requests.specs.Both.{fieldless, version1_told, format_by, both}
use Rattle.requests.specs.Gaps.{Placed, same_kind, if_of_kind, placed_from}
use Rattle.requests.specs.GapReport.{in_code_order}
use Rattle.requests.proofs.OnEntries.KeepLaws.{either}
use Rattle.requests.proofs.OnEntries.EachLaws.{Each}
use Rattle.requests.proofs.OnMoves.PassLaws.{each-passes}

-- ---- the records of one kind

-- the date of every record is one of its kind, as it is stored
abbrev pub Dated : Format FieldEntry → Type 0
Dated format = (r : List ℕ) (e : FieldEntry) → format.entry r ≡ Gives e → given (handed e.kind e.date) ≡ true

-- some records that are dates of a kind
abbrev pub OfKind : Kind → List Placed → Type 0
OfKind k ps = Each (λ (p : Placed). of_kind k p.date ≡ true) ps

-- a date handed in is one of its kind
handed-kind : (k : Kind) (d : Stored) → given (handed k d) ≡ true → of_kind k (unpacked d) ≡ true
handed-kind k d g = (handed-tells k d (unpacked d) (handed-by k d g)).of-kind

-- two kinds with one code are one
pub same_kind_lem : (k j : Kind) → same_kind k j ≡ true → j ≡ k
same_kind_lem k j t =
    let e = eqb-true (kind_code k) (kind_code j) t in
    let alike : ◌≡◌ {A = Answer Kind} (Gives j) (Gives k) = sym (code-back j) ∙ ap kind_of_code (sym e) ∙ code-back k in
    cc

-- what a record of the kind has, and each later one, each has
pub kept-each : (P : Placed → Type 0) (k : Kind) (place : ℕ) (x : Answer FieldEntry) (later : List Placed) →
    ((e : FieldEntry) → x ≡ Gives e → e.kind ≡ k → P (record { place = place; date = unpacked e.date })) → Each P later →
    Each P (if_of_kind k place x later)
kept-each P k place (Gives e) later f h = either (same_kind k e.kind) (λ t. rw t (f e refl (same_kind_lem k e.kind t), h)) (λ t. rw t h)
kept-each P k place (Refused n) later f h = h
kept-each P k place (RefusedAt n bad) later f h = h

kept-few : (k : Kind) (place : ℕ) (x : Answer FieldEntry) (later : List Placed) → length (if_of_kind k place x later) ≤ suc (length later)
kept-few k place (Gives e) later = either (same_kind k e.kind) (λ t. rw t (omega arith)) (λ t. rw t (omega arith))
kept-few k place (Refused n) later = omega arith
kept-few k place (RefusedAt n bad) later = omega arith

module _ (format : Format FieldEntry) (k : Kind) where
  pub dates-of-kind : Dated format → (place : ℕ) (rs : List (List ℕ)) → OfKind k (placed_from format k place rs)
  unfolding placed_from
  dates-of-kind d place [] = tt
  dates-of-kind d place (r ∷ rs) =
      kept-each _ k place (format.entry r) (placed_from format k (suc place) rs) (λ e g j. rw j at (handed-kind e.kind e.date (d r e g))) (dates-of-kind d (suc place) rs)

  pub placed-few : (place : ℕ) (rs : List (List ℕ)) → length (placed_from format k place rs) ≤ length rs
  unfolding placed_from
  placed-few place [] = omega arith
  placed-few place (r ∷ rs) =
      let h = placed-few (suc place) rs in let g = kept-few k place (format.entry r) (placed_from format k (suc place) rs) in omega arith

  pub placed-before : (place end : ℕ) (rs : List (List ℕ)) → place + length rs ≤ end →
      Each (λ (p : Placed). p.place < end) (placed_from format k place rs)
  unfolding placed_from
  placed-before place end [] h = tt
  placed-before place end (r ∷ rs) h =
      kept-each _ k place (format.entry r) (placed_from format k (suc place) rs) (λ e g j. omega arith) (placed-before (suc place) end rs (omega arith))

  pub placed-within : (place : ℕ) (rs : List (List ℕ)) → Each (λ (p : Placed). p.place < place + length rs) (placed_from format k place rs)
  placed-within place rs = placed-before place (place + length rs) rs (omega arith)

-- ---- the two versions

-- what both formats have, the format of whatever a buffer holds has
pub each-version : (P : Format FieldEntry → Type 0) → P version2 → P version1_told → (s : List ℕ) → P (both s)
unfolding format_by
each-version P two one s = either (eqb (version_of s) version2.frame.version) (λ t. rw t two) (λ t. rw t one)

dated-two : Dated version2
unfolding field_entry_of
dated-two r e g =
    let d = date_in r in
    let a = then-met (kind_of_code (get_or r 0 0)) _ e g in
    let b = then-met (handed a.value d) _ e a.next in
    let is : record { kind = a.value; field = field_in r; date = d } ≡ e = cc b.next in
    subst (λ (x : FieldEntry). given (handed x.kind x.date) ≡ true) is (ap given b.is)

dated-one : Dated version1_told
unfolding entry_from
dated-one r e g =
    let d = stored_from 1 r in
    let t = then-met (entry_of r) (λ x. Gives (fieldless x)) e g in
    let a = then-met (kind_of_code (get_or r 0 0)) _ t.value t.is in
    let b = then-met (unmarked_date a.value d) _ t.value a.next in
    let k = a.value in
    let f = b.value in
    let h = demand-met (eqb (mark_of d.word) no_mark) not_of_kind (handed k d) f b.is in
    let p = (handed-tells k d f h.1).of-kind in
    let is : record { kind = k; date = f } ≡ t.value = cc b.next in
    let told : fieldless t.value ≡ e = cc t.next in
    subst (λ (x : FieldEntry). given (handed x.kind x.date) ≡ true) (ap fieldless is ∙ told) (ap given (handed-back k f p))

-- of a book of either version
pub both-dated : (s : List ℕ) → Dated (both s)
both-dated s = each-version Dated dated-two dated-one s

-- of a book of either version every record of a kind is a date of the kind
pub placed-of-kind : (s : List ℕ) (k : Kind) (place : ℕ) (rs : List (List ℕ)) → OfKind k (placed_from (both s) k place rs)
placed-of-kind s k place rs = dates-of-kind (both s) k (both-dated s) place rs

-- ---- each record once

-- how many there are of some kinds
abbrev pub count_of : (Kind → List Placed) → List Kind → ℕ
count_of of [] = 0
count_of of (k ∷ ks) = length (of k) + count_of of ks

-- a record is of one of the six kinds, and of no other
of_one : (j : Kind) (p : Placed) (later : Kind → List Placed) →
    count_of (λ k. kept_if (same_kind k j) p (later k)) in_code_order ≡ suc (count_of later in_code_order)
of_one kR p later = omega arith
of_one kD p later = omega arith
of_one kH p later = omega arith
of_one kU p later = omega arith
of_one kE p later = omega arith
of_one kV p later = omega arith

one_more : (place : ℕ) (x : Answer FieldEntry) (later : Kind → List Placed) → given x ≡ true →
    count_of (λ k. if_of_kind k place x (later k)) in_code_order ≡ suc (count_of later in_code_order)
one_more place (Gives e) later g = of_one e.kind _ later
one_more place (Refused n) later g = absurd (subst T (sym g) tt)
one_more place (RefusedAt n bad) later g = absurd (subst T (sym g) tt)

module _ (format : Format FieldEntry) where
  each-once : (place : ℕ) (rs : List (List ℕ)) → Each (λ r. sound_by format r ≡ true) rs →
      count_of (λ k. placed_from format k place rs) in_code_order ≡ length rs
  unfolding placed_from
  each-once place [] h = refl
  each-once place (r ∷ rs) h =
      one_more place (format.entry r) (λ k. placed_from format k (suc place) rs) h.0 ∙ ap suc (each-once (suc place) rs h.1)

  -- each record of a book that is not refused is told of exactly once
  pub counted-once : (s : List ℕ) (rs : List (List ℕ)) → records format s ≡ Gives rs →
      count_of (λ k. placed_from format k 0 rs) in_code_order ≡ length rs
  unfolding records
  counted-once s rs e =
      let g = then-met (framed format.frame s) (all_pass bad_record (sound_by format)) rs e in
      let p = pass-met bad_record (sound_by format) g.value rs g.next in
      each-once 0 rs (each-passes (sound_by format) rs (rw p.1 at p.0))
