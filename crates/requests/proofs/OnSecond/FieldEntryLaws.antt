-- Version 2: a date's record gives its kind, its field number and the date back, with its mark; what an append of one answers, and the book
-- after it, by the laws over the format. Assumes nothing.
use mathlib.Core.Path.{◌≡◌, refl, sym, ap, ◌∙◌}
use mathlib.Core.Bool.{Bool, true}
use mathlib.Core.List.{List, ◌∷◌, ◌++◌}
use Prim.Native.Nat.{ℕ, ◌+◌, ◌≤◌, ◌<◌}
use native.Mathlib.Omega.{arith}
use borrow.Author.Tests.{le-leb}
use lib.Dec.{leb, lit<}
use lib.ListN.{length}
use Rattle.rules.specs.Words.{big_endian, big_bytes}
use Rattle.rules.specs.Refusals.{Answer, Gives, Refused, RefusedAt, ◌then◌, demand, given, guessed_date}
use Rattle.rules.specs.Kinds.{Kind, Stored, mark_of, unpacked, handed}
use Rattle.rules.specs.Book.{sound_by, check, entry_at, place_after, append_answer, append_buffer, kind_code, twos_complement}
use Rattle.rules.proofs.OnWords.ByteLaws.{number-back}
use Rattle.rules.proofs.OnKinds.KindLaws.{fit}
use Rattle.rules.proofs.OnKinds.PackLaws.{word-of, word_fits, handed-by, handed-tells}
use Rattle.rules.proofs.OnBook.FrameLaws.{Sensible}
use Rattle.rules.proofs.OnBook.AppendAnswers.{append-by}
use Rattle.rules.proofs.OnBook.AppendLaws as A
use Rattle.rules.proofs.OnBook.EntryLaws.{twos_fit, year-back, code-back}
use Rattle.requests.specs.Second.{FieldEntry, most_field, field_entry_of, version2, field_entry_bytes, field_entry_for}

pub version2-sensible : Sensible version2.frame
version2-sensible = record { some = lit< tt; fits = lit< tt }

pub field-entry-long : (k : Kind) (field : ℕ) (d : Stored) → length (field_entry_bytes k field d) ≡ version2.frame.size
unfolding field_entry_bytes big_bytes
field-entry-long k field d = refl

-- a date that was handed in with a field number
module _ (k : Kind) (field : ℕ) (d : Stored) (h : field ≤ most_field) (g : given (handed k d) ≡ true) where
  abbrev r : List ℕ
  r = field_entry_bytes k field d

  abbrev entry : FieldEntry
  entry = record { kind = k; field = field; date = d }

  pub field-entry-for : field_entry_for (kind_code k) field d ≡ Gives r
  unfolding field_entry_for
  field-entry-for = rw (code-back k, le-leb field most_field h, handed-by k d g)

  -- its record gives its kind, its field number and the date, with its mark
  pub field-entry-back : field_entry_of r ≡ Gives entry
  unfolding field_entry_of field_entry_bytes big_bytes
  field-entry-back =
      let y = d.year in
      let t = handed-tells k d (unpacked d) (handed-by k d g) in
      let s = fit k (unpacked d) t.of-kind in
      let e : big_endian (big_bytes 2 field) ≡ field = number-back 2 _ (omega arith) in
      let u : big_endian (big_bytes 2 (twos_complement y)) ≡ twos_complement y =
      number-back 2 _ (let f = twos_fit y s.year-high s.year-low in omega arith) in
      let w : big_endian (big_bytes 2 d.word) ≡ d.word =
      number-back 2 _ (let a = word-of d in let f = word_fits k (mark_of d.word) (unpacked d) (omega arith) t.of-kind in omega arith) in
      rw (code-back k, e, u, year-back y s.year-high s.year-low, w, handed-by k d g)

  pub field-entry-sound : sound_by version2 r ≡ true
  field-entry-sound = ap given field-entry-back

  module _ (s : List ℕ) where
    -- marked or not, it is taken: an append answers what refuses the book, then 12, or the place, and never 20
    pub append-taken : append_answer version2 (field_entry_for (kind_code k) field d) s ≡ (check version2 s then place_after version2.frame s)
    append-taken =
        ap (λ x. append_answer version2 x s) field-entry-for ∙ append-by version2 s r
        ∙ ap (λ (t : Bool). room then λ n. demand t guessed_date (Gives n)) field-entry-sound ∙ same_answer room
      where
        room : Answer ℕ
        room = check version2 s then place_after version2.frame s

        same_answer : (x : Answer ℕ) → (x then λ n. Gives n) ≡ x
        same_answer (Gives n) = refl
        same_answer (Refused n) = refl
        same_answer (RefusedAt n place) = refl

    -- the book after it: one record more, the new one this date's, the others as they were
    module _ (n : ℕ) (e : append_answer version2 (Gives r) s ≡ Gives n) where
      abbrev after : List ℕ
      after = append_buffer version2 (Gives r) s

      pub one_more : check version2 after ≡ Gives (n + 1)
      one_more = A.count-more version2 version2-sensible r s n e (field-entry-long k field d)

      pub old-ones : (i : ℕ) → i < n → entry_at version2 after i ≡ entry_at version2 s i
      old-ones = A.old-entries version2 version2-sensible r s n e (field-entry-long k field d)

      pub new-one : entry_at version2 after n ≡ Gives entry
      new-one = A.new-entry version2 version2-sensible r s n e (field-entry-long k field d) ∙ field-entry-back
