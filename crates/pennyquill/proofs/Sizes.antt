-- The numbers that texts answer are small, so that 32 bits hold them: their lengths; and what it is for an answer to be small. Assumes nothing.
use mathlib.Core.Path.{◌≡◌, refl}
use mathlib.Core.Bool.{Bool, true, false}
use mathlib.Core.List.{List}
use Prim.Native.Nat.{ℕ, ◌≤◌, zero-le}
use native.Mathlib.Omega.{arith}
use lib.Dec.{leb}
use lib.ListN.{length}
use Rattle.rules.specs.Refusals.{Answer, Gives, Refused, RefusedAt, ◌then◌, demand, not_of_kind}
use lib.IntN.{ℤ}
use Rattle.rules.specs.Kinds.{Kind, Fields, Stored, of_kind, made, mark_of, mark_allowed, unpacked, handed, of_date, store, store_like}
use Rattle.rules.specs.Days.{add_days, summed}
use Rattle.rules.specs.Text.{read_text}
use Rattle.requests.specs.IsoReader.{read_iso}
use Rattle.requests.specs.Hours.{add_count, hour_summed}
use Rattle.requests.proofs.OnIsoReader.NamedLaws.{outcome-named}
use Rattle.rules.specs.Spelling.{dotted, iso, has_iso_date, iso_date_alone, exchange, put_answer}
use Rattle.rules.specs.Book.{kind_code, kind_of_code}
use Rattle.rules.proofs.OnRefusals.OutcomeLaws.{Outcome, gives, refuses, outcome-text}
use Rattle.rules.proofs.OnKinds.CodeLaws.{outcome-kind}
use Rattle.rules.proofs.OnSpelling.LengthLaws.{text-lengths}
use Rattle.pennyquill.specs.Boundary.{number_of, place_of}

-- ---- what an answer carries

-- P holds of its value; a place is at most 4,096, as is every number here
abbrev pub Small : {A : Type 0} → (A → Type 0) → Answer A → Type 0
Small P (Gives a) = P a
Small P (Refused n) = Unit {0}
Small P (RefusedAt n place) = place ≤ 4096

abbrev pub Few : ℕ → Type 0
Few n = n ≤ 4096

-- nothing is said of a value
abbrev pub Any : {A : Type 0} → A → Type 0
Any a = Unit {0}

pub small-then : {A B : Type 0} (P : A → Type 0) (Q : B → Type 0) (x : Answer A) (next : A → Answer B) →
    Small P x → ((a : A) → P a → Small Q (next a)) → Small Q (x then next)
small-then P Q (Gives a) next p q = q a p
small-then P Q (Refused n) next p q = tt
small-then P Q (RefusedAt n place) next p q = p

pub small-demand : {A : Type 0} (P : A → Type 0) (t : Bool) (n : ℕ) (x : Answer A) → (t ≡ true → Small P x) → Small P (demand t n x)
small-demand P true n x p = p refl
small-demand P false n x p = tt

-- a number within a bound that no place exceeds
pub small-within : (most : ℕ) → 4096 ≤ most → (x : Answer ℕ) → Small (λ n. n ≤ most) x → number_of x ≤ most
small-within most h (Gives n) p = p
small-within most h (Refused n) p = zero-le
small-within most h (RefusedAt n place) p = omega arith

-- 32 bits hold it
pub fits-32 : {n : ℕ} → n ≤ 786420 → n ≤ 4294967295
fits-32 h = omega arith

pub small-fits : {n : ℕ} → n ≤ 4096 → n ≤ 4294967295
small-fits h = omega arith

pub small-number : (x : Answer ℕ) → Small Few x → number_of x ≤ 4096
small-number x p = small-within 4096 (omega arith) x p

pub small-place : {A : Type 0} (x : Answer A) → Small Any x → place_of x ≤ 4096
small-place (Gives a) p = zero-le
small-place (Refused n) p = zero-le
small-place (RefusedAt n place) p = p

-- a date handed in is of its kind, and its refusal has no place; nor has that of a code
pub handed-small : (k : Kind) (d : Stored) → Small (λ f. of_kind k f ≡ true) (handed k d)
unfolding handed made
handed-small k d =
    small-demand (λ f. of_kind k f ≡ true) (mark_allowed (mark_of d.word)) _ _
    (λ low. small-demand (λ f. of_kind k f ≡ true) (of_kind k (unpacked d)) _ _ (λ p. p))

pub small-outcome : {A : Type 0} {R : ℕ → Type 0} {P : A → Type 0} {x : Answer A} → Outcome R P x → Small Any x
small-outcome (gives p) = tt
small-outcome (refuses r) = tt

pub code-small : (code : ℕ) → Small Any (kind_of_code code)
unfolding kind_of_code
code-small code = small-outcome (outcome-kind kind_code not_of_kind code {R = λ n. Unit {0}} tt)

-- a refusal has no place
pub record Plain {A : Type 0} (x : Answer A) : Type 0 where
  pub is : Small Any x

pub plain-then : {A B : Type 0} {x : Answer A} {next : A → Answer B} → Plain x → ((a : A) → Plain (next a)) → Plain (x then next)
plain-then {x = x} {next = next} p q = record { is = small-then Any Any x next p.is (λ a any. (q a).is) }

pub plain-demand : {A : Type 0} (t : Bool) (n : ℕ) {x : Answer A} → Plain x → Plain (demand t n x)
plain-demand t n {x = x} p = record { is = small-demand Any t n x (λ e. p.is) }

pub plain-gives : {A : Type 0} (a : A) → Plain (Gives a)
plain-gives a = record { is = tt }

-- ---- a date that is read, or that a sum gives

stored-place : (x : Answer Fields) (next : Fields → Answer Stored) → Plain x → ((f : Fields) → Plain (next f)) → place_of (x then next) ≤ 4096
stored-place x next p q = small-place (x then next) (plain-then p q).is

module _ (k : Kind) (s : List ℕ) where
  pub text-place : place_of (store (read_text k s)) ≤ 4096
  text-place = stored-place (read_text k s) _ (record { is = small-outcome (outcome-text {R = λ n. Unit {0}} tt tt k s) }) (λ f. plain-gives _)

  iso-plain : Plain (read_iso k s)
  unfolding read_iso
  iso-plain = plain-demand _ _ (record { is = small-outcome (outcome-named {R = λ n. Unit {0}} tt k s) })

  pub iso-place : place_of (store (read_iso k s)) ≤ 4096
  iso-place = stored-place (read_iso k s) _ iso-plain (λ f. plain-gives _)

handed-plain : (k : Kind) (d : Stored) → Plain (handed k d)
unfolding handed made
handed-plain k d = plain-demand (mark_allowed (mark_of d.word)) not_of_kind (plain-demand (of_kind k (unpacked d)) not_of_kind (plain-gives (unpacked d)))

summed-plain : (k : Kind) (days : ℤ) (f : Fields) → Plain (add_days k f days)
unfolding add_days summed
summed-plain k days f = search (plain-demand, plain-gives)

pub sum-place : (k : Kind) (d : Stored) (days : ℤ) → place_of (store_like d (of_date k d (λ f. add_days k f days))) ≤ 4096
sum-place k d days = stored-place (of_date k d (λ f. add_days k f days)) _ (plain-then (handed-plain k d) (summed-plain k days)) (λ f. plain-gives _)

counted-plain : (block : ℕ) (k : Kind) (count : ℤ) (f : Fields) → Plain (add_count block k f count)
unfolding add_count hour_summed
counted-plain block k count f = search (plain-demand, plain-gives)

pub count-place : (k : Kind) (block : ℕ) (d : Stored) (count : ℤ) → place_of (store_like d (of_date k d (λ f. add_count block k f count))) ≤ 4096
count-place k block d count =
    stored-place (of_date k d (λ f. add_count block k f count)) _ (plain-then (handed-plain k d) (counted-plain block k count)) (λ f. plain-gives _)

-- ---- the length of a text

abbrev FewBytes : List ℕ → Type 0
FewBytes text = length text ≤ 4096

module _ (k : Kind) (d : Stored) (buffer : List ℕ) where
  text-small : (spell : Fields → Answer (List ℕ)) →
      ((f : Fields) → of_kind k f ≡ true → Small FewBytes (spell f)) →
      number_of (put_answer (handed k d then spell) buffer) ≤ 4096
  unfolding put_answer
  text-small spell each =
      small-number (put_answer (handed k d then spell) buffer)
      (small-then FewBytes Few (handed k d then spell) _
      (small-then (λ f. of_kind k f ≡ true) FewBytes (handed k d) spell (handed-small k d) each)
      (λ text p. small-demand Few (leb (length text) (length buffer)) _ _ (λ fits. p)))

  pub dotted-small : number_of (put_answer (of_date k d (λ f. Gives (dotted k f))) buffer) ≤ 4096
  dotted-small = text-small (λ f. Gives (dotted k f)) (λ f p. let h = (text-lengths k f p).dotted-length in omega arith)

  pub iso-small : number_of (put_answer (of_date k d (λ f. Gives (iso k f))) buffer) ≤ 4096
  iso-small = text-small (λ f. Gives (iso k f)) (λ f p. let h = (text-lengths k f p).iso-length in omega arith)

  pub exchange-small : number_of (put_answer (of_date k d (λ f. Gives (exchange k f))) buffer) ≤ 4096
  exchange-small = text-small (λ f. Gives (exchange k f)) (λ f p. let h = (text-lengths k f p).exchange-length in omega arith)

  pub iso-date-small : number_of (put_answer (of_date k d (λ f. iso_date_alone k f)) buffer) ≤ 4096
  unfolding iso_date_alone
  iso-date-small =
      text-small (λ f. iso_date_alone k f)
      (λ f p. small-demand FewBytes (has_iso_date k) _ _ (λ has. let h = (text-lengths k f p).date-length in omega arith))
