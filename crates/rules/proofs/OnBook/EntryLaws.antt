-- The record of a date in a book: its five bytes, and the date back from them, for every date of every kind. Assumes nothing.
use mathlib.Core.Path.{◌≡◌, refl, ap, subst, ◌∙◌}
use mathlib.Core.Bool.{Bool, true, false}
use mathlib.Core.List.{List}
use Prim.Native.Nat.{ℕ, suc, ◌+◌, ◌-◌, ◌≤◌, ◌<◌}
use native.Mathlib.Omega.{arith}
use borrow.Author.Tests.{lt-ltb, le-ltb, eqb-true, eq-eqb, ne_eqb}
use lib.Dec.{eqb, lit<}
use lib.IntN.{ℤ, pos, negsuc, sub_ℕ}
use lib.ListN.{length, get_or, take, drop}
use Rattle.sign.specs.Halves.{up, dn}
use Rattle.sign.proofs.Laws.{same, ints}
use Rattle.rules.specs.Words.{big_endian, big_bytes}
use Rattle.rules.specs.Refusals.{Answer, Gives, Refused, RefusedAt, ◌then◌, demand, given, not_of_kind, guessed_date}
use Rattle.rules.specs.Kinds.{Kind, kR, kD, kH, kU, kE, kV, Fields, of_kind, Stored, word_of, mark_of, no_mark, guessed_mark, stored_with, stored, unpacked, handed, of_date, is_guessed}
use Rattle.rules.specs.Book.{kind_code, kind_of_code, twos_complement, year_of_twos, entry_bytes, Entry, unmarked_date, entry_from, entry_of, entry_for, sound_by, version1, check, place_after, entry_at, append_answer, append_buffer}
use Rattle.rules.proofs.OnKinds.KindLaws.{fit}
use Rattle.rules.proofs.OnKinds.PackLaws.{mark-back, word_fits, handed-back, handed-by, Handed, handed-tells}
use Rattle.rules.proofs.OnWords.ByteLaws.{number-back}
use Rattle.rules.proofs.OnBook.FrameLaws.{Sensible}
use Rattle.rules.proofs.OnBook.AppendAnswers.{append-by}
use Rattle.rules.proofs.OnBook.AppendLaws as A

-- ---- the year in two bytes

-- by the year's sign, over its halves
pub twos-above : (y : ℤ) → dn y ≡ 0 → twos_complement y ≡ up y
twos-above (pos n) h = refl
twos-above (negsuc n) h = absurd (omega arith)

pub twos-below : (y : ℤ) → 0 < dn y → twos_complement y ≡ 65536 - dn y
twos-below (pos n) h = absurd (omega arith)
twos-below (negsuc n) h = refl

pub year-above : (n : ℕ) → n < 32768 → year_of_twos n ≡ sub_ℕ n 0
unfolding year_of_twos
year-above n h = rw (lt-ltb n 32768 h) (same _ _ (simp ints (omega arith)))

pub year-below : (n : ℕ) → 32768 ≤ n → year_of_twos n ≡ sub_ℕ n 65536
unfolding year_of_twos
year-below n h = rw (le-ltb n 32768 h) (same _ _ (simp ints (omega arith)))

-- 16 bits hold it, and it comes back
pub twos_fit : (y : ℤ) → up y ≤ 32767 → dn y ≤ 32768 → twos_complement y < 65536
twos_fit (pos n) a b = omega arith
twos_fit (negsuc n) a b = omega arith

pub year-back : (y : ℤ) → up y ≤ 32767 → dn y ≤ 32768 → year_of_twos (twos_complement y) ≡ y
year-back (pos n) a b = year-above n (omega arith) ∙ same _ _ (simp ints (omega arith))
year-back (negsuc n) a b = year-below (65536 - suc n) (omega arith) ∙ same _ _ (simp ints (omega arith))

-- ---- the record

pub code-back : (k : Kind) → kind_of_code (kind_code k) ≡ Gives k
unfolding kind_of_code
code-back kR = refl
code-back kD = refl
code-back kH = refl
code-back kU = refl
code-back kE = refl
code-back kV = refl

pub entry-long : (k : Kind) (d : Stored) → length (entry_bytes k d) ≡ version1.frame.size
unfolding entry_bytes big_bytes
entry-long k d = refl

-- what a date's record is: its kind and the date, where it has no mark
entry_read : (k : Kind) (mark : ℕ) (f : Fields) → mark < 4 → of_kind k f ≡ true →
    entry_of (entry_bytes k (stored_with mark f)) ≡ (unmarked_date k (stored_with mark f) then λ g. Gives (record { kind = k; date = g }))
unfolding entry_from entry_bytes big_bytes
entry_read k mark f m p =
    let t = fit k f p in
    let y : big_endian (big_bytes 2 (twos_complement f.year)) ≡ twos_complement f.year =
    number-back 2 _ (let h = twos_fit f.year t.year-high t.year-low in omega arith) in
    let w : big_endian (big_bytes 2 (word_of mark f)) ≡ word_of mark f = number-back 2 _ (let h = word_fits k mark f m p in omega arith) in
    rw (code-back k, y, year-back f.year t.year-high t.year-low, w)

-- a date's record gives its kind and the date
pub entry-back : (k : Kind) (f : Fields) → of_kind k f ≡ true → entry_of (entry_bytes k (stored f)) ≡ Gives (record { kind = k; date = f })
entry-back k f p = entry_read k no_mark f (lit< tt) p ∙ rw (mark-back no_mark f (lit< tt), handed-back k f p)

pub entry-sound : (k : Kind) (f : Fields) → of_kind k f ≡ true → sound_by version1 (entry_bytes k (stored f)) ≡ true
entry-sound k f p = ap given (entry-back k f p)

-- the record of a date handed in, by its kind's code
pub entry-for : (k : Kind) (d : Stored) → entry_for (kind_code k) d ≡ of_date k d (λ f. Gives (entry_bytes k d))
unfolding entry_for
entry-for k d = rw (code-back k)

-- ---- version 1

pub version1-sensible : Sensible version1.frame
version1-sensible = record { some = lit< tt; fits = lit< tt }

module _ (k : Kind) (f : Fields) (p : of_kind k f ≡ true) (s : List ℕ) (n : ℕ) (e : append_answer version1 (Gives (entry_bytes k (stored f))) s ≡ Gives n) where
  abbrev after : List ℕ
  after = append_buffer version1 (Gives (entry_bytes k (stored f))) s

  pub one-record-more : check version1 after ≡ Gives (n + 1)
  one-record-more = A.count-more version1 version1-sensible (entry_bytes k (stored f)) s n e (entry-long k (stored f))

  pub old-entries : (i : ℕ) → i < n → entry_at version1 after i ≡ entry_at version1 s i
  old-entries = A.old-entries version1 version1-sensible (entry_bytes k (stored f)) s n e (entry-long k (stored f))

  pub new-entry : entry_at version1 after n ≡ Gives (record { kind = k; date = f })
  new-entry = A.new-entry version1 version1-sensible (entry_bytes k (stored f)) s n e (entry-long k (stored f)) ∙ entry-back k f p

-- ---- #106: "20 when a guessed date is appended to a version 1 book, after 12; 11 for any mark in one"

-- bytes whose word has a mark are no record of it, whatever else they say
pub mark-unsound : (r : List ℕ) → (mark_of (big_endian (take 2 (drop 3 r))) ≡ no_mark → ⊥) → sound_by version1 r ≡ false
unfolding entry_from
mark-unsound r h = rw (ne_eqb _ no_mark h) (refused (kind_of_code (get_or r 0 0)))
  where
    refused : (x : Answer Kind) → given {A = Entry} (x then λ k. Refused not_of_kind) ≡ false
    refused (Gives k) = refl
    refused (Refused n) = refl
    refused (RefusedAt n place) = refl

-- a date handed in: its record is one of version 1 exactly where it has no mark
module _ (k : Kind) (d : Stored) (g : given (handed k d) ≡ true) where
  told : Handed k d (unpacked d)
  told = handed-tells k d (unpacked d) (handed-by k d g)

  pub sound-unmarked : sound_by version1 (entry_bytes k d) ≡ eqb (mark_of d.word) no_mark
  sound-unmarked = by (eqb (mark_of d.word) no_mark) refl
    where
      read : entry_of (entry_bytes k d) ≡ (unmarked_date k d then λ f. Gives (record { kind = k; date = f }))
      read =
          subst (λ (x : Stored). entry_of (entry_bytes k x) ≡ (unmarked_date k x then λ f. Gives (record { kind = k; date = f }))) told.stored_is
          (entry_read k (mark_of d.word) (unpacked d) (omega arith) told.of-kind)

      by : (t : Bool) → eqb (mark_of d.word) no_mark ≡ t → sound_by version1 (entry_bytes k d) ≡ t
      by true e = let is : entry_of (entry_bytes k d) ≡ Gives (record { kind = k; date = unpacked d }) = read ∙ rw (e, handed-by k d g) in ap given is
      by false e = let is : entry_of (entry_bytes k d) ≡ Refused not_of_kind = read ∙ rw e in ap given is

  module _ (s : List ℕ) where
    -- the book's refusals, then 12, or the place
    abbrev room : Answer ℕ
    room = check version1 s then place_after version1.frame s

    by-mark : {t : Bool} → eqb (mark_of d.word) no_mark ≡ t → append_answer version1 (entry_for (kind_code k) d) s ≡ (room then λ n. demand t guessed_date (Gives n))
    by-mark e =
        let entry : entry_for (kind_code k) d ≡ Gives (entry_bytes k d) = entry-for k d ∙ rw (handed-by k d g) in
        ap (λ x. append_answer version1 x s) entry ∙ append-by version1 s (entry_bytes k d)
        ∙ ap (λ (t : Bool). room then λ n. demand t guessed_date (Gives n)) (sound-unmarked ∙ e)

    -- without a mark it is as it was; a guessed date is refused with 20 where any other gets a place, and there alone
    pub append-unmarked : mark_of d.word ≡ no_mark → append_answer version1 (entry_for (kind_code k) d) s ≡ room
    append-unmarked z = by-mark (eq-eqb _ no_mark z) ∙ same_answer room
      where
        same_answer : (x : Answer ℕ) → (x then λ n. Gives n) ≡ x
        same_answer (Gives n) = refl
        same_answer (Refused n) = refl
        same_answer (RefusedAt n place) = refl

    pub append-guessed : is_guessed d ≡ true → append_answer version1 (entry_for (kind_code k) d) s ≡ (room then λ n. Refused guessed_date)
    append-guessed z = by-mark (let m = eqb-true (mark_of d.word) guessed_mark z in ne_eqb (mark_of d.word) no_mark (λ e. omega arith))
