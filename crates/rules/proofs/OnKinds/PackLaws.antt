-- The packed word and its mark: a date's word handed in again is the date, and a word handed in is that of its fields with its mark.
-- Assumes nothing.
use mathlib.Core.Path.{◌≡◌, refl, ◌∙◌, sym, ap, subst}
use mathlib.Core.Bool.{Bool, true, false}
use Prim.Native.Nat.{ℕ, ◌+◌, ◌*◌, ◌/◌, ◌%◌, ◌≤◌, ◌<◌}
use native.Mathlib.Omega.{arith}
use lib.Dec.{T, lit<}
use lib.IntN.{ℤ}
use Rattle.rules.specs.Refusals.{Answer, Gives, Refused, demand, given, not_of_kind}
use Rattle.rules.specs.Kinds.{Kind, Fields, Stored, fits_kind, of_kind, made, packed, word_of, mark_of, no_mark, mark_allowed, stored_with, stored, unpacked, handed, of_date}
use Rattle.rules.proofs.OnKinds.KindLaws.{Fit, fit}
use Rattle.rules.proofs.OnDays.OrderLaws.{day-small, hour-small}

-- fields that are equal one by one are equal
pub same-fields : {y z : ℤ} {a b c d e f : ℕ} → y ≡ z → a ≡ b → c ≡ d → e ≡ f →
    ◌≡◌ {A = Fields} (record { year = y; month = a; day = c; hour = e }) (record { year = z; month = b; day = d; hour = f })
same-fields p q r s = λ i. record { year = p i; month = q i; day = r i; hour = s i }

pub same-stored : {y z : ℤ} {v w : ℕ} → y ≡ z → v ≡ w → ◌≡◌ {A = Stored} (record { year = y; word = v }) (record { year = z; word = w })
same-stored p q = λ i. record { year = p i; word = q i }

-- ---- the word and its mark

-- every word is that of its fields with its mark, whatever it is
pub word-of : (d : Stored) → word_of (mark_of d.word) (unpacked d) ≡ d.word
unfolding packed
word-of d = omega arith

-- the word without its mark: what the order sees
pub word-alone : (d : Stored) → packed (unpacked d) ≡ d.word / 4 * 4
unfolding packed
word-alone d = omega arith

pub mark-back : (mark : ℕ) (f : Fields) → mark < 4 → mark_of (word_of mark f) ≡ mark
unfolding packed
mark-back mark f h = omega arith

pub word_fits : (k : Kind) (mark : ℕ) (f : Fields) → mark < 4 → of_kind k f ≡ true → word_of mark f < 65536
unfolding packed
word_fits k mark f m p = let t = fit k f p in let d = day-small k f p in let h = hour-small k f p in omega arith

-- the fields come back, whatever the mark
pub unpack-pack : (k : Kind) (mark : ℕ) (f : Fields) → mark < 4 → of_kind k f ≡ true → unpacked (stored_with mark f) ≡ f
unfolding packed
unpack-pack k mark f m p =
    let d = day-small k f p in let h = hour-small k f p in
    same-fields refl (omega arith) (omega arith) (omega arith)

-- without a mark a date is stored as its fields are
pub unmarked : (d : Stored) → mark_of d.word ≡ no_mark → stored (unpacked d) ≡ d
unmarked d e = same-stored refl (ap (λ mark. word_of mark (unpacked d)) (sym e) ∙ word-of d)

-- ---- a date handed in

-- a date's own word, with a mark that is allowed, gives the date
pub marked-back : (k : Kind) (mark : ℕ) (f : Fields) → mark < 4 → mark_allowed mark ≡ true → of_kind k f ≡ true → handed k (stored_with mark f) ≡ Gives f
unfolding handed made
marked-back k mark f m a p = rw (mark-back mark f m, a, unpack-pack k mark f m p, p)

pub handed-back : (k : Kind) (f : Fields) → of_kind k f ≡ true → handed k (stored f) ≡ Gives f
handed-back k f p = marked-back k no_mark f (lit< tt) refl p

module _ (k : Kind) (d : Stored) where
  -- it gives its fields, or 4
  pub handed-by : {t : Bool} → given (handed k d) ≡ t → handed k d ≡ demand t not_of_kind (Gives (unpacked d))
  unfolding handed made
  handed-by e = inner (mark_allowed (mark_of d.word)) (of_kind k (unpacked d)) e
    where
      inner : (s t : Bool) {u : Bool} → given (demand s not_of_kind (demand t not_of_kind (Gives (unpacked d)))) ≡ u →
          demand s not_of_kind (demand t not_of_kind (Gives (unpacked d))) ≡ demand u not_of_kind (Gives (unpacked d))
      inner true true e = rw (← e)
      inner true false e = rw (← e)
      inner false t e = rw (← e)

  -- an operation that the kind lacks refuses every date
  pub lacking : {A : Type 0} → ◌≡◌ {A = Answer A} (of_date k d (λ f. Refused not_of_kind)) (Refused not_of_kind)
  lacking {A} = by (given (handed k d)) refl
    where
      by : (t : Bool) → given (handed k d) ≡ t → ◌≡◌ {A = Answer A} (of_date k d (λ f. Refused not_of_kind)) (Refused not_of_kind)
      by true e = rw (handed-by e)
      by false e = rw (handed-by e)

  -- what a date handed in tells: its mark is allowed, its fields are a date's of the kind, and its word is theirs with the mark
  pub record Handed (f : Fields) : Type 0 where
    pub allowed : mark_allowed (mark_of d.word) ≡ true
    pub of-kind : of_kind k f ≡ true
    pub stored_is : stored_with (mark_of d.word) f ≡ d

  pub handed-tells : (f : Fields) → handed k d ≡ Gives f → Handed f
  unfolding handed made
  handed-tells f e = inner (mark_allowed (mark_of d.word)) (of_kind k (unpacked d)) refl refl e
    where
      inner : (s t : Bool) → mark_allowed (mark_of d.word) ≡ s → of_kind k (unpacked d) ≡ t →
          demand s not_of_kind (demand t not_of_kind (Gives (unpacked d))) ≡ Gives f → Handed f
      inner true true p q r =
          let same : unpacked d ≡ f = cc in
          subst Handed same (record { allowed = p; of-kind = q; stored_is = same-stored refl (word-of d) })
      inner true false p q r = let z : ◌≡◌ {A = ℕ} 0 1 = cc in absurd (omega arith)
      inner false t p q r = let z : ◌≡◌ {A = ℕ} 0 1 = cc in absurd (omega arith)
