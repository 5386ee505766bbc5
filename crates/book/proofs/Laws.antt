-- The bytes of a record: where they stand, and what they are by the tests that the code makes; and the records of a checked book.
-- Over the size of a record. Assumes nothing.
use mathlib.Core.Path.{◌≡◌, refl, sym, ap, ◌∙◌}
use mathlib.Core.Bool.{Bool, true, false}
use Rattle.std.specs.Prelude.{Option, Some, None, ok_or}
use mathlib.Core.List.{List, [], ◌∷◌}
use Prim.Native.Nat.{ℕ, ◌+◌, ◌*◌, ◌-◌, ◌/◌, ◌≤◌, ◌<◌}
use native.Mathlib.Nat.{add-zero}
use native.Mathlib.Omega.{arith}
use borrow.Author.Tests.{le-leb, eqb-true}
use lib.Dec.{eqb}
use lib.IntN.{ℤ}
use lib.ListN.{length, get_or, take, drop, length-drop}
use lib.Seq.{get_or-take, get_or-drop, length-take-le}
use Rattle.rules.specs.Words.{big_endian}
use Rattle.rules.specs.Refusals.{Answer, Gives, Refused, RefusedAt, ◌then◌, demand, given, not_of_kind, bad_record, no_record}
use Rattle.rules.specs.Kinds as K
use Rattle.rules.specs.Kinds.{Stored, mark_of, no_mark, handed}
use Rattle.rules.specs.Book.{Format, sound_by, framed, all_pass, records, pick, head_size, kind_code, kind_of_code, year_of_twos, unmarked_date, entry_from, length_said, check, record_at, version1, entry_at, entry_for, append_answer, append_buffer}
use Rattle.rules.proofs.Shared.Rests as R
use Rattle.rules.proofs.OnBook.AppendAnswers as A
use Rattle.rules.proofs.OnBook.AppendAnswers.{Appends}
use Rattle.rules.proofs.OnBook.FrameLaws.{Sensible}
use Rattle.rules.proofs.OnBook.BookLaws.{entry-by, Counted, counted, checked, ends-inside, record-here, record-none, sound-here}
use Rattle.rules.proofs.OnBook.EntryLaws.{entry-long, entry-for}
use Rattle.requests.specs.Second.{FieldEntry, no_field, stored_from, field_entry_of, version2}
use Rattle.requests.specs.Both.{fieldless, retold, version1_told}
use Rattle.requests.proofs.OnBoth.BothLaws.{same_check, same-append, same-buffer, retold-entry}
use Rattle.kinds.specs.declared.Kind.{Kind}
use Rattle.kinds.specs.declared.Packed.{Packed}
use Rattle.kinds.specs.Views.{kind_of, bits_of}
use Rattle.rules.proofs.OnKinds.PackLaws.{handed-by, unmarked}
use Rattle.refusals.specs.declared.Refusal.{Refusal}
use Rattle.refusals.specs.Answers.{refusal_as}
use Rattle.refusals.proofs.RefusalLaws.{refused, refusal-then}
use Rattle.frame.specs.Views.{frame_of, pieces_counted}
use Rattle.frame.proofs.Counts.{counted_is}
use Rattle.frame.proofs.Refusing.{refused-before}
use Rattle.book.specs.declared.Record.{Record}
use Rattle.book.specs.Views.{date_size, least_size, field_record_size, stored_by, kept_by, entry_with, field_sized, entry_sized, book_of, in_bits, bytes_of, slot_as, found_as}

-- ---- a record's bytes, where it stands in a list

module _ (s : List ℕ) (at size : ℕ) (inside : at + size ≤ length s) where
  abbrev piece : List ℕ
  piece = take size (drop at s)

  long : length piece ≡ size
  long = length-take-le size (drop at s) (rw length-drop (omega arith))

  byte_at : (i : ℕ) → i < size → get_or piece i 0 ≡ get_or s (at + i) 0
  byte_at i h = rw (get_or-take, get_or-drop)

  two_at : (i : ℕ) → i + 1 < size → take 2 (drop i piece) ≡ get_or s (at + i) 0 ∷ get_or s (at + i + 1) 0 ∷ []
  two_at i h =
      let l = long in
      let e : at + (i + 1) ≡ at + i + 1 = omega arith in
      rw (
        R.here piece i (omega arith),
        R.here piece (i + 1) (omega arith),
        byte_at i (omega arith),
        byte_at (i + 1) (omega arith),
        e,
      )

  -- where its date stands
  abbrev d : ℕ
  d = at + size - date_size

  two : (high low : ℕ) → big_endian (high ∷ low ∷ []) ≡ high * 256 + low
  unfolding big_endian
  two high low = omega arith

  -- it is what the bytes are that say its kind, its field number and its date
  pub entry-at : (plain : Bool) → least_size ≤ size →
      entry_sized size plain piece ≡ entry_with plain (get_or s at 0) (field_sized size piece) (stored_by (get_or s d 0) (get_or s (d + 1) 0) (get_or s (d + 2) 0) (get_or s (d + 3) 0))
  entry-at plain h =
      let f : get_or piece 0 0 ≡ get_or s at 0 = byte_at 0 (omega arith) ∙ rw add-zero in
      let p : at + (size - date_size) ≡ d = omega arith in
      let q : at + (size - date_size + 2) ≡ d + 2 = omega arith in
      let r : d + 2 + 1 ≡ d + 3 = omega arith in
      rw (f, two_at (size - date_size) (omega arith), two_at (size - date_size + 2) (omega arith), p, q, r, two (get_or s d 0) (get_or s (d + 1) 0), two (get_or s (d + 2) 0) (get_or s (d + 3) 0))

  pub field-there : field_record_size ≤ size → field_sized size piece ≡ get_or s (at + 1) 0 * 256 + get_or s (at + 2) 0
  field-there h =
      let e : at + 1 + 1 ≡ at + 2 = omega arith in
      rw (le-leb field_record_size size h, two_at 1 (omega arith), e, two (get_or s (at + 1) 0) (get_or s (at + 2) 0))

-- ---- what a record is, by the tests that the code makes

module _ (plain : Bool) (code field y₁ y₀ w₁ w₀ : ℕ) where
  abbrev entry : Answer FieldEntry
  entry = entry_with plain code field (stored_by y₁ y₀ w₁ w₀)

  pub no_kind : kind_of_code code ≡ Refused not_of_kind → entry ≡ Refused not_of_kind
  unfolding entry_with
  no_kind e = rw e

  module _ {k : K.Kind} (e : kind_of_code code ≡ Gives k) {year : ℤ} (y : year ≡ year_of_twos (y₁ * 256 + y₀)) {word : ℕ} (w : word ≡ w₁ * 256 + w₀) where
    abbrev date : Stored
    date = record { year = year; word = word }

    -- whether the book may have it
    abbrev kept : Bool
    kept = kept_by plain field date

    by : entry ≡ (demand kept not_of_kind (handed k date) then λ f. Gives (record { kind = k; field = field; date = date }))
    unfolding entry_with
    by = rw (e, ← y, ← w)

    pub not-kept : kept ≡ false → entry ≡ Refused not_of_kind
    not-kept m = by ∙ rw m

    module _ (m : kept ≡ true) where
      pub of-kind : given (handed k date) ≡ true → entry ≡ Gives (record { kind = k; field = field; date = date })
      of-kind g = by ∙ rw (m, handed-by k date g)

      pub not-of-kind : given (handed k date) ≡ false → entry ≡ Refused not_of_kind
      not-of-kind g = by ∙ rw (m, handed-by k date g)

-- ---- the record of a date handed in

pub five-long : (k : Kind) (d : Packed) → length (bytes_of k d) ≡ 5
five-long k d = entry-long (kind_of k) (bits_of d)

module _ (k : Kind) (d : Packed) where
  pub entry-given : given (handed (kind_of k) (bits_of d)) ≡ true → entry_for (kind_code (kind_of k)) (bits_of d) ≡ Gives (bytes_of k d)
  entry-given g = entry-for (kind_of k) (bits_of d) ∙ rw (handed-by (kind_of k) (bits_of d) g)

  pub entry-not : given (handed (kind_of k) (bits_of d)) ≡ false → entry_for (kind_code (kind_of k)) (bits_of d) ≡ Refused not_of_kind
  entry-not g = entry-for (kind_of k) (bits_of d) ∙ rw (handed-by (kind_of k) (bits_of d) g)

-- ---- the format over the size: version 2 is it at 7, and version 1 at 5, its records told as those of version 2

pub version2-is : book_of 7 4096 2 false ≡ version2
unfolding entry_with field_entry_of
version2-is = refl

told-alike : (x : Answer K.Kind) (d : Stored) →
    ◌≡◌ {A = Answer FieldEntry} (x then λ k. demand (kept_by true no_field d) not_of_kind (handed k d) then λ f. Gives (record { kind = k; field = no_field; date = d }))
    (retold fieldless (x then λ k. unmarked_date k d then λ f. Gives (record { kind = k; date = f })))
told-alike (Refused n) d = refl
told-alike (RefusedAt n place) d = refl
told-alike (Gives k) d = by (eqb (mark_of d.word) no_mark) (given (handed k d)) refl refl
  where
    by : (s t : Bool) → eqb (mark_of d.word) no_mark ≡ s → given (handed k d) ≡ t →
        ◌≡◌ {A = Answer FieldEntry} (demand s not_of_kind (handed k d) then λ f. Gives (record { kind = k; field = no_field; date = d }))
        (retold fieldless (demand s not_of_kind (handed k d) then λ f. Gives (record { kind = k; date = f })))
    by true true p q = rw (handed-by k d q, unmarked d (eqb-true (mark_of d.word) no_mark p))
    by true false p q = rw (handed-by k d q)
    by false t p q = refl

pub version1-is : book_of 5 4096 1 true ≡ version1_told
unfolding entry_with entry_from
version1-is = λ i. record { frame = version1.frame; entry = λ r. told-alike (kind_of_code (get_or r 0 0)) (stored_from 1 r) i }

module _ (size most version : ℕ) (plain : Bool) (some : least_size ≤ size) (fits : 1 + most * size < 4294967296) where
  pub sensible : Sensible (frame_of size most version)
  sensible = record { some = omega arith; fits = fits }

  abbrev format : Format FieldEntry
  format = book_of size most version plain

  -- what a count tells
  pub count-tells : (s : List ℕ) (n : ℕ) → check format s ≡ Gives n → (length_said s ≡ 1 + n * size) × (head_size + n * size ≤ length s)
  count-tells s n e =
      let c = counted format sensible s n e in (rw c.count at c.holds.frame.says, rw c.count at c.holds.frame.fits)

  -- ---- a checked book

  module _ (s : List ℕ) (p : given (check format s) ≡ true) where
    abbrev n : ℕ
    n = (length_said s - 1) / size

    has : Counted format sensible s n
    has = checked format sensible s p

    pub head-stands : (head_size ≤ length s) × (1 ≤ length_said s)
    head-stands = let h = has.holds.frame.fits in let g = has.holds.frame.says in (omega arith, omega arith)

    module _ (i : ℕ) where
      pub entry_past : n ≤ i → entry_at format s i ≡ Refused no_record
      entry_past l = entry-by format s i (record-none format sensible s n has i l)

      -- the record at a place of it
      module _ (l : i < n) where
        abbrev here : List ℕ
        here = take size (drop (head_size + i * size) s)

        pub inside : head_size + i * size + size ≤ length s
        inside = ends-inside format sensible s n has i l

        pub entry_here : entry_at format s i ≡ entry_sized size plain here
        entry_here = entry-by format s i (record-here format sensible s n has i l)

        pub sound_here : given (entry_sized size plain here) ≡ true
        sound_here = sound-here format sensible s n has i l

  -- ---- what is refused is refused all the way

  module _ (s : List ℕ) (e : Refusal) where
    -- by the frame
    pub frame-refused : pieces_counted (frame_of size most version) s ≡ refusal_as e → check format s ≡ refusal_as e
    unfolding check records
    frame-refused h =
        rw (refused-before e (framed format.frame s) length (sym (counted_is format.frame s) ∙ h), refusal-then e (all_pass bad_record (sound_by format)))
        (refusal-then e _)

    -- by the check
    module _ (h : check format s ≡ refusal_as e) where
      pub entry-refused : (i : ℕ) → entry_at format s i ≡ refusal_as e
      unfolding check record_at entry_at
      entry-refused i =
          rw (refused-before e (records format s) length h, refusal-then e (λ (rs : List (List ℕ)). pick rs i)) (refusal-then e _)

      pub append-refused : (r : List ℕ) → Appends format r s (refusal_as e) s
      append-refused r = by (refusal_as e) h (refused ℕ e)
        where
          by : (x : Answer ℕ) → check format s ≡ x → given x ≡ false → Appends format r s x s
          by (Gives m) g u = cc
          by (Refused m) g u = A.append-refused format r s m g
          by (RefusedAt m place) g u = A.append-bad format r s m place g

-- a record that is found, whatever the refusal would have been
pub found-or : (x : Option Record) (e : Refusal) (a : Answer FieldEntry) → slot_as x ≡ a → given a ≡ true → found_as (ok_or x e) ≡ a
found-or (Some r) e a p g = p
found-or None e a p g = let no : false ≡ true = ap given p ∙ g in cc

-- ---- version 1, from its records told as those of version 2

module _ (s : List ℕ) where
  pub check-one : check (book_of 5 4096 1 true) s ≡ check version1 s
  check-one = ap (λ (f : Format FieldEntry). check f s) version1-is ∙ same_check fieldless version1 s

  pub entry-one : (i : ℕ) → entry_at (book_of 5 4096 1 true) s i ≡ in_bits (entry_at version1 s i)
  entry-one i = ap (λ (f : Format FieldEntry). entry_at f s i) version1-is ∙ retold-entry fieldless version1 s i

  module _ (x : Answer (List ℕ)) where
    pub append-one : append_answer (book_of 5 4096 1 true) x s ≡ append_answer version1 x s
    append-one = ap (λ (f : Format FieldEntry). append_answer f x s) version1-is ∙ same-append fieldless version1 x s

    pub buffer-one : append_buffer (book_of 5 4096 1 true) x s ≡ append_buffer version1 x s
    buffer-one = ap (λ (f : Format FieldEntry). append_buffer f x s) version1-is ∙ same-buffer fieldless version1 x s
