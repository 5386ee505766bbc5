-- #106: which marks are allowed; the mark of what is handed out; and that nothing that is answered of a date sees its mark.
-- Assumes nothing.
use mathlib.Core.Path.{◌≡◌, refl, ◌∙◌, sym, ap, subst}
use mathlib.Core.Bool.{Bool, true, false, cond}
use Prim.Native.Nat.{ℕ, zero, suc, ◌/◌, ◌%◌, ◌<◌}
use native.Mathlib.Omega.{arith}
use borrow.Author.Tests.{ltb-false, le-ltb, lt-leb, ne_eqb}
use lib.Dec.{leb, ltb, lit<}
use lib.IntN.{ℤ}
use lib.Signed.{lt_z}
use Rattle.sign.proofs.Laws.{same, lt-false, no_lt}
use Rattle.rules.specs.Refusals.{Answer, Gives, Refused, ◌then◌, not_of_kind}
use Rattle.rules.specs.Kinds.{Kind, Fields, Stored, of_kind, packed, mark_of, no_mark, guessed_mark, mark_allowed, stored_with, stored, store_with, store_guess, store, store_like, unpacked, handed, of_date, of_dates, is_guessed, without_mark}
use Rattle.rules.specs.Days.{Order, Before, Same, After, by_z, by_n, order}
use Rattle.rules.proofs.OnKinds.PackLaws.{same-fields, word-alone, mark-back, marked-back, handed-tells}
use Rattle.rules.proofs.OnBook.FrameLaws.{then-met}

-- ---- "0 declared, 1 guessed, 2 and 3 not allowed"

-- those up to 1
pub allowed-is : (mark : ℕ) → mark_allowed mark ≡ leb mark guessed_mark
allowed-is zero = refl
allowed-is (suc zero) = refl
allowed-is (suc (suc n)) =
    rw (ne_eqb (suc (suc n)) no_mark (λ e. omega arith), ne_eqb (suc (suc n)) guessed_mark (λ e. omega arith), lt-leb (suc (suc n)) guessed_mark (omega arith))

-- a date handed in with another is refused, whatever it says
pub not-allowed : (k : Kind) (d : Stored) → guessed_mark < mark_of d.word → handed k d ≡ Refused not_of_kind
unfolding handed
not-allowed k d h = rw (allowed-is (mark_of d.word) ∙ lt-leb (mark_of d.word) guessed_mark h)

-- ---- the mark of what is handed out

-- it is the one that was set, whatever the fields
pub mark_set : (mark : ℕ) (a : Answer Fields) (e : Stored) → mark < 4 → store_with mark a ≡ Gives e → mark_of e.word ≡ mark
mark_set mark a e h p =
    let t = then-met a (λ f. Gives (stored_with mark f)) e p in
    let same : stored_with mark t.value ≡ e = cc t.next in
    ap (λ (d : Stored). mark_of d.word) (sym same) ∙ mark-back mark t.value h

-- "Guess readers set 1, all others 0"
pub guess-sets : (a : Answer Fields) (e : Stored) → store_guess a ≡ Gives e → is_guessed e ≡ true
guess-sets a e p = rw (mark_set guessed_mark a e (lit< tt) p)

pub others-set-none : (a : Answer Fields) (e : Stored) → store a ≡ Gives e → mark_of e.word ≡ no_mark
others-set-none a e p = mark_set no_mark a e (lit< tt) p

-- "an addition and E's start of day keep the starting date's mark": so does whatever is stored like the date that it starts from
pub mark-kept : (start : Stored) (a : Answer Fields) (e : Stored) → store_like start a ≡ Gives e → mark_of e.word ≡ mark_of start.word
mark-kept start a e p = mark_set (mark_of start.word) a e (omega arith) p

-- ---- the mark is not seen

-- two dates of the same fields, both with a mark that is allowed, are the same to everything that is answered of a date: its texts, its
-- number, its sums
module _ (k : Kind) (d e : Stored) (same : unpacked d ≡ unpacked e) (a : mark_allowed (mark_of d.word) ≡ true) (b : mark_allowed (mark_of e.word) ≡ true) where
  pub mark-unseen : handed k d ≡ handed k e
  unfolding handed
  mark-unseen = rw (a, b, same)

  pub answers-alike : {A : Type 0} (next : Fields → Answer A) → of_date k d next ≡ of_date k e next
  answers-alike next = rw mark-unseen

  -- and with any other date: their order, their difference
  pub first_alike : {A : Type 0} (o : Stored) (next : Fields → Fields → Answer A) → of_dates k d o next ≡ of_dates k e o next
  first_alike o next = rw mark-unseen

  pub second_alike : {A : Type 0} (o : Stored) (next : Fields → Fields → Answer A) → of_dates k o d next ≡ of_dates k o e next
  second_alike o next = rw mark-unseen

-- a date that is handed out, and handed in again, is the date
pub answered-of : (k : Kind) (mark : ℕ) (f : Fields) → mark < 4 → mark_allowed mark ≡ true → of_kind k f ≡ true →
    {A : Type 0} (next : Fields → Answer A) → of_date k (stored_with mark f) next ≡ next f
answered-of k mark f m a p next = rw (marked-back k mark f m a p)

-- ---- the date without its mark

-- it is the same date, and has the mark 0
pub without-mark : (k : Kind) (d e : Stored) → without_mark k d ≡ Gives e → (handed k e ≡ handed k d) × (mark_of e.word ≡ no_mark)
without-mark k d e p =
    let t = then-met (handed k d) (λ f. Gives (stored f)) e p in
    let same : stored t.value ≡ e = cc t.next in
    let h = handed-tells k d t.value t.is in
    (ap (handed k) (sym same) ∙ marked-back k no_mark t.value (lit< tt) refl h.of-kind ∙ sym t.is, others-set-none (handed k d) e p)

-- ---- equality: "Order, equality and all texts disregard it"

-- by two numbers, or two integers, Same is answered where they are equal and what follows is Same, and there alone
by-numbers : (a b : ℕ) → by_n a b Same ≡ Same → a ≡ b
by-numbers a b = split (ltb a b) (ltb b a) refl refl
  where
    split : (s t : Bool) → ltb a b ≡ s → ltb b a ≡ t → cond s Before (cond t After Same) ≡ Same → a ≡ b
    split true t p q e = let z : ◌≡◌ {A = ℕ} 0 1 = cc in absurd (omega arith)
    split false true p q e = let z : ◌≡◌ {A = ℕ} 0 1 = cc in absurd (omega arith)
    split false false p q e = let m = ltb-false a b p in let n = ltb-false b a q in omega arith

by-years : (a b : ℤ) (x : Order) → by_z a b x ≡ Same → (a ≡ b) × (x ≡ Same)
by-years a b x = split (lt_z a b) (lt_z b a) refl refl
  where
    split : (s t : Bool) → lt_z a b ≡ s → lt_z b a ≡ t → cond s Before (cond t After x) ≡ Same → (a ≡ b) × (x ≡ Same)
    split true t p q e = let z : ◌≡◌ {A = ℕ} 0 1 = cc in absurd (omega arith)
    split false true p q e = let z : ◌≡◌ {A = ℕ} 0 1 = cc in absurd (omega arith)
    split false false p q e = let m = lt-false a b p in let n = lt-false b a q in (same a b (omega arith), e)

-- the fields by the word without its mark
month-of : (word : ℕ) → word / 4096 ≡ word / 4 / 1024
month-of word = omega arith

day-of : (word : ℕ) → word / 128 % 32 ≡ word / 4 / 32 % 32
day-of word = omega arith

itself-is-same : (f : Fields) → order f f ≡ Same
unfolding order
itself-is-same f = rw (no_lt f.year f.year (omega arith), le-ltb (packed f) (packed f) (omega arith))

-- two stored dates are in order Same exactly where they are the same in fields, whatever their marks
module _ (d e : Stored) where
  pub same-is-alike : order (unpacked d) (unpacked e) ≡ Same → unpacked d ≡ unpacked e
  unfolding order
  same-is-alike p =
      let y = by-years d.year e.year (by_n (packed (unpacked d)) (packed (unpacked e)) Same) p in
      let w = by-numbers (packed (unpacked d)) (packed (unpacked e)) y.1 in
      let v = word-alone d in
      let u = word-alone e in
      let same : d.word / 4 ≡ e.word / 4 = omega arith in
      same-fields y.0 (month-of d.word ∙ ap (λ w. w / 1024) same ∙ sym (month-of e.word))
      (day-of d.word ∙ ap (λ w. w / 32 % 32) same ∙ sym (day-of e.word)) (ap (λ w. w % 32) same)

  pub alike-is-same : unpacked d ≡ unpacked e → order (unpacked d) (unpacked e) ≡ Same
  alike-is-same p = subst (λ (f : Fields). order f (unpacked e) ≡ Same) (sym p) (itself-is-same (unpacked e))
