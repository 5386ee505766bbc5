-- The walk for a kind: what the code finds of a record is what the definitions say, one record after the other. Assumes nothing.
use mathlib.Core.Path.{◌≡◌, refl, sym, ap, ◌∙◌}
use mathlib.Core.Bool.{Bool, true, false, cond}
use mathlib.Core.List.{List, [], ◌∷◌}
use Prim.Native.Nat.{ℕ, zero, suc, ◌+◌, ◌-◌, ◌≤◌, ◌<◌}
use native.Mathlib.Nat.{not-suc-le-zero, le_refl}
use native.Mathlib.Omega.{arith}
use lib.Dec.{eqb}
use lib.IntN.{ℤ, pos, nat_abs, sub_ℕ, ◌-ℤ◌}
use lib.ListN.{length, drop}
use Rattle.sign.proofs.Laws.{same, ints, up-sub, dn-sub}
use Rattle.rules.specs.Refusals.{Answer, Gives, Refused, RefusedAt, ◌then◌, given, not_of_kind}
use Rattle.rules.specs.Calendar.{lengths, month_length, sum_first, first_day, day_of_year}
use Rattle.rules.specs.Kinds.{Kind, kR, kD, kH, kU, kE, kV, Fields, Stored, fits_kind, of_kind, made, unpacked, handed, of_dates}
use Rattle.rules.specs.Days.{day_number, counts_days, difference}
use Rattle.rules.specs.Book.{Format, records, check, pick, record_at, entry_at}
use Rattle.rules.proofs.OnKinds.PackLaws.{handed-by, handed-tells}
use Rattle.rules.proofs.OnBook.FrameLaws.{Stepped, then-met}
use Rattle.kinds.specs.declared.Kind as Kinds
use Rattle.kinds.specs.Views.{kind_of}
use Rattle.kinds.proofs.Determined.{kind_back, kind-back}
use Rattle.requests.proofs.OnEntries.KeepLaws.{either}
use Rattle.refusals.specs.declared.Refusal.{Refusal}
use Rattle.refusals.specs.Answers.{refusal_as}
use Rattle.refusals.proofs.RefusalLaws.{refused}
use Rattle.requests.specs.Second.{FieldEntry}
use Rattle.requests.specs.Gaps.{Placed, same_kind, if_of_kind, placed_from}
use Rattle.requests.specs.Both.{both}
use Rattle.requests.proofs.OnGaps.StepLaws.{gap-even}
use Rattle.requests.proofs.OnGaps.RecordLaws.{Dated, same_kind_lem, both-dated}
use Rattle.requests.proofs.OnGapReport.RoomLaws.{few-records}
use Rattle.requests.proofs.OnGaps.ExactLaws.{Near, number-near}
use Rattle.gap_report.specs.Walk.{list_of, records_in, Sound, Tallied, number_for, number_at, counted, tally}

-- ---- a date's day number, as its difference from 0.1.1

abbrev pub zero_date : Stored
zero_date = record { year = pos 0; word = 4224 }

less-nothing : (z : ℤ) → z -ℤ pos 0 ≡ z
less-nothing z = same _ _ (simp ints (omega arith))

-- the value of an answer, 0 where it is refused
abbrev or_zero : Answer ℤ → ℤ
or_zero (Gives z) = z
or_zero (Refused n) = pos 0
or_zero (RefusedAt n place) = pos 0

from_zero : (k : Kind) (f : Fields) → or_zero (handed k zero_date then λ z. difference k z f) ≡ number_for k f
unfolding handed made fits_kind of_kind month_length lengths difference day_number day_of_year first_day sum_first
from_zero kR f = refl
from_zero kD f = less-nothing _
from_zero kH f = refl
from_zero kU f = refl
from_zero kE f = less-nothing _
from_zero kV f = less-nothing _

at_zero : number_at 11960684 ≡ pos 0
at_zero = refl

module _ (k : Kind) (d : Stored) (g : given (handed k d) ≡ true) where
  told-number : or_zero (of_dates k zero_date d (λ f h. difference k f h)) ≡ number_for k (unpacked d)
  told-number = rw (handed-by k d g) (from_zero k (unpacked d))

  number-near-for : Near (number_for k (unpacked d))
  number-near-for = by (counts_days k) refl
    where
      by : (t : Bool) → counts_days k ≡ t → Near (cond t (day_number (unpacked d)) (pos 0))
      by true c = number-near k c (unpacked d) (handed-tells k d (unpacked d) (handed-by k d g)).of-kind
      by false c = (omega arith, omega arith)

  -- a difference was found: it is the day number
  pub record Found (z : ℤ) : Type 0 where
    pub near : Near z
    pub is : z ≡ number_for k (unpacked d)

  pub number-found : (z : ℤ) → Gives z ≡ of_dates k zero_date d (λ f h. difference k f h) → Found z
  number-found z e = let is : z ≡ number_for k (unpacked d) = ap or_zero e ∙ told-number in record { near = rw is number-near-for; is = is }

  pub number-none : Refused not_of_kind ≡ of_dates k zero_date d (λ f h. difference k f h) → number_at 11960684 ≡ number_for k (unpacked d)
  number-none e = at_zero ∙ ap or_zero e ∙ told-number

-- ---- how far one number is from another

-- two numbers counted from one place lie as far apart as what is counted
pub apart : (a b : ℕ) → number_at b -ℤ number_at a ≡ sub_ℕ b a
apart a b =
    let g = gap-even (number_at b) (number_at a) in
    let u = up-sub a 11960684 in let d = dn-sub a 11960684 in let v = up-sub b 11960684 in let e = dn-sub b 11960684 in
    same _ _ (rw (up-sub b a, dn-sub b a) (omega arith))

pub abs-sub : (a b : ℕ) → nat_abs (sub_ℕ b a) ≡ (b - a) + (a - b)
abs-sub a b = simp ints refl

-- ---- one record more

abbrev one : ℕ → FieldEntry → Placed
one place e = record { place = place; date = unpacked e.date }

-- what was found is a record of the kind, or one of another
module _ (k : Kind) (t : Tallied) (place : ℕ) {x : Answer FieldEntry} (e : FieldEntry) (g : x ≡ Gives e) where
  pub seen_of : same_kind k e.kind ≡ true → counted k t (one place e) ≡ tally k t (if_of_kind k place x [])
  unfolding tally
  seen_of s = rw (g, s)

  pub seen_other : same_kind k e.kind ≡ false → t ≡ tally k t (if_of_kind k place x [])
  unfolding tally
  seen_other s = rw (g, s)

-- the code's kinds are one where their own are
pub other-kind : (k j : Kinds.Kind) → (j ≡ k → ⊥) → same_kind (kind_of k) (kind_of j) ≡ false
other-kind k j differ =
    either (same_kind (kind_of k) (kind_of j))
    (λ t. absurd (differ (sym (kind-back j) ∙ ap kind_back (same_kind_lem (kind_of k) (kind_of j) t) ∙ kind-back k))) (λ f. f)

-- none is found where a book was checked
module _ (k : Kind) (t : Tallied) (place : ℕ) {x : Answer FieldEntry} (n : ℕ) where
  pub seen_none : x ≡ Refused n → t ≡ tally k t (if_of_kind k place x [])
  unfolding tally
  seen_none g = rw g

  pub seen-bad : (bad : ℕ) → x ≡ RefusedAt n bad → t ≡ tally k t (if_of_kind k place x [])
  unfolding tally
  seen-bad bad g = rw g

pub seen-refusing : (k : Kind) (t : Tallied) (place : ℕ) {x : Answer FieldEntry} (e : Refusal) → x ≡ refusal_as e → t ≡ tally k t (if_of_kind k place x [])
seen-refusing k t place {x} e g = by x (ap given g ∙ refused FieldEntry e)
  where
    by : (y : Answer FieldEntry) → given y ≡ false → t ≡ tally k t (if_of_kind k place y [])
    by (Gives f) u = cc
    by (Refused n) u = seen_none k t place n refl
    by (RefusedAt n bad) u = seen-bad k t place n bad refl

-- the walk goes on from there
pub tally-on : (k : Kind) (t : Tallied) (place : ℕ) (x : Answer FieldEntry) (rest : List Placed) →
    tally k t (if_of_kind k place x rest) ≡ tally k (tally k t (if_of_kind k place x [])) rest
unfolding tally
tally-on k t place (Gives e) rest = by (same_kind k e.kind) refl
  where
    by : (b : Bool) → same_kind k e.kind ≡ b → tally k t (if_of_kind k place (Gives e) rest) ≡ tally k (tally k t (if_of_kind k place (Gives e) [])) rest
    by true s = rw s
    by false s = rw s
tally-on k t place (Refused n) rest = refl
tally-on k t place (RefusedAt n bad) rest = refl

-- it counts at most one
pub count-more : (k : Kind) (t : Tallied) (place : ℕ) (x : Answer FieldEntry) → (tally k t (if_of_kind k place x [])).count ≤ suc t.count
unfolding tally counted
count-more k t place (Gives e) = by (same_kind k e.kind) (eqb t.count 0) refl refl
  where
    by : (b c : Bool) → same_kind k e.kind ≡ b → eqb t.count 0 ≡ c → (tally k t (if_of_kind k place (Gives e) [])).count ≤ suc t.count
    by true true s z = rw (s, z) (omega arith)
    by true false s z = rw (s, z) (le_refl _)
    by false c s z = rw s (omega arith)
count-more k t place (Refused n) = omega arith
count-more k t place (RefusedAt n bad) = omega arith

-- ---- the records of a book that was checked, from a place on

module _ (format : Format FieldEntry) (k : Kind) where
  -- the one at the place, and those after it
  next_of : (rs : List (List ℕ)) (i place : ℕ) → i < length rs →
      placed_from format k place (drop i rs) ≡ if_of_kind k place (pick rs i then format.entry) (placed_from format k (suc place) (drop (suc i) rs))
  unfolding placed_from pick
  next_of [] i place h = absurd (not-suc-le-zero h)
  next_of (r ∷ rs) zero place h = refl
  next_of (r ∷ rs) (suc i) place h = next_of rs i place (omega arith)

  none_left : (rs : List (List ℕ)) (i place : ℕ) → length rs ≤ i → placed_from format k place (drop i rs) ≡ []
  unfolding placed_from
  none_left [] zero place h = refl
  none_left [] (suc i) place h = refl
  none_left (r ∷ rs) zero place h = absurd (omega arith)
  none_left (r ∷ rs) (suc i) place h = none_left rs i place (omega arith)

  module _ (x : Answer (List (List ℕ))) (n : ℕ) (e : (x then λ rs. Gives (length rs)) ≡ Gives n) where
    met : Stepped x (λ rs. Gives (length rs)) n
    met = then-met x (λ rs. Gives (length rs)) n e

    counted_is : length (list_of x) ≡ n
    counted_is = let l : length met.value ≡ n = cc met.next in rw met.is l

    -- what a walk is left with at a place: the record there, and those after it; at the end nothing
    pub left-next : (i : ℕ) → i < n →
        placed_from format k i (drop i (list_of x)) ≡ if_of_kind k i (x then (λ rs. pick rs i) then format.entry) (placed_from format k (suc i) (drop (suc i) (list_of x)))
    left-next i h = let l = counted_is in rw met.is (next_of met.value i i (let m : length met.value ≡ n = cc met.next in omega arith))

    pub left-none : placed_from format k n (drop n (list_of x)) ≡ []
    left-none = none_left (list_of x) n n (omega (arith, counted_is))

-- ---- what a book that was checked holds

-- "At most 4,096 records"
pub few : (s : List ℕ) (n : ℕ) → check (both s) s ≡ Gives n → n ≤ 4096
unfolding check
few s n e =
    let m = met (both s) kR (records (both s) s) n e in
    let l : length m.value ≡ n = cc m.next in
    let h = few-records s m.value m.is in
    omega arith

-- the date of whatever is found at a place is one of its kind
sound-entry : (format : Format FieldEntry) → Dated format → (x : Answer (List ℕ)) → Sound (x then format.entry)
sound-entry format d (Gives r) = by (format.entry r) refl
  where
    by : (y : Answer FieldEntry) → format.entry r ≡ y → Sound y
    by (Gives e) g = d r e g
    by (Refused n) g = tt
    by (RefusedAt n place) g = tt
sound-entry format d (Refused n) = tt
sound-entry format d (RefusedAt n place) = tt

pub sound-at : (s : List ℕ) (place : ℕ) → Sound (entry_at (both s) s place)
unfolding entry_at
sound-at s place = sound-entry (both s) (both-dated s) (record_at (both s) s place)

-- the walk over what is left at a place goes on with the record there; at the end nothing is left
module _ (s : List ℕ) (n : ℕ) (e : check (both s) s ≡ Gives n) (k : Kind) where
  abbrev left : ℕ → List Placed
  left i = placed_from (both s) k i (drop i (records_in s))

  pub turn : (t : Tallied) (i : ℕ) → i < n → tally k t (left i) ≡ tally k (tally k t (if_of_kind k i (entry_at (both s) s i) [])) (left (suc i))
  unfolding check entry_at record_at
  turn t i h = ap (tally k t) (left-next (both s) k (records (both s) s) n e i h) ∙ tally-on k t i (entry_at (both s) s i) (left (suc i))

  pub end : (t : Tallied) → tally k t (left n) ≡ t
  unfolding check tally
  end t = ap (tally k t) (left-none (both s) k (records (both s) s) n e)
