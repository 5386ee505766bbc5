-- What every refusal is as an answer, whichever it is. Assumes nothing.
use Rattle.std.specs.Prelude.{◌≡◌, refl, false, Option, Some, None, Result, Ok, Err, true, ok_or, IsOk, IsErr, IsErrAnd}
use Rattle.std.specs.Result.{result_ok}
use Rattle.std.proofs.Common.{rules, sym, ap, ◌∙◌}
use Rattle.rules.specs.Refusals.{Answer, ◌then◌, given}
use Rattle.refusals.specs.declared.Refusal.{Refusal}
use Rattle.refusals.specs.declared.Refusal.TheVariants as R
use Rattle.refusals.specs.Answers.{refusal_as, result_as}

-- a refusal gives nothing
pub refused : (A : Type 0) (e : Refusal) → given {A = A} (refusal_as e) ≡ false
refused A R.TooLong = refl
refused A R.NotText = refl
refused A R.NotNumber = refl
refused A R.NotOfKind = refl
refused A R.SumOverflows = refl
refused A R.OutOfRange = refl
refused A R.BufferShort = refl
refused A R.TooManyBytes = refl
refused A R.BadLength = refl
refused A R.BadVersion = refl
refused A (R.BadRecord place) = refl
refused A R.NoRoom = refl
refused A R.NoRecord = refl
refused A R.BadEntry = refl
refused A R.TableFull = refl
refused A R.NotThere = refl
refused A R.GuessedDate = refl
refused A (R.FieldOrMark place) = refl

-- and ends the matter, whatever would follow a value
pub refusal-then : {A B : Type 0} (e : Refusal) (next : A → Answer B) → (refusal_as e then next) ≡ refusal_as e
refusal-then R.TooLong next = refl
refusal-then R.NotText next = refl
refusal-then R.NotNumber next = refl
refusal-then R.NotOfKind next = refl
refusal-then R.SumOverflows next = refl
refusal-then R.OutOfRange next = refl
refusal-then R.BufferShort next = refl
refusal-then R.TooManyBytes next = refl
refusal-then R.BadLength next = refl
refusal-then R.BadVersion next = refl
refusal-then (R.BadRecord place) next = refl
refusal-then R.NoRoom next = refl
refusal-then R.NoRecord next = refl
refusal-then R.BadEntry next = refl
refusal-then R.TableFull next = refl
refusal-then R.NotThere next = refl
refusal-then R.GuessedDate next = refl
refusal-then (R.FieldOrMark place) next = refl

-- ---- what `?` hands on

-- a refusal, as it was
pub passed : {T A : Type 0} (f : T → A) (e : Refusal) (r : Result T Refusal) →
    IsErr r × IsErrAnd r (λ q. q ≡ e) → result_as f r ≡ refusal_as e
passed f e (Ok value) p = search (rules, p.0)
passed f e (Err q) p = ap refusal_as p.1

-- what `ok_or` gave a value for was there
pub some-of : {T E : Type 0} (e : E) (o : Option T) {r : Result T E} {t : T} → r ≡ ok_or o e → r ≡ Ok t → o ≡ Some t
some-of e (Some u) told is = ap result_ok (sym told ∙ is)
some-of e None told is = ap result_ok (sym told ∙ is)

-- what it gave the refusal for was not there, and `?` hands on that refusal
absent : {T E : Type 0} (e : E) (o : Option T) {r : Result T E} {q : E} → r ≡ ok_or o e → r ≡ Err q → o ≡ None
absent e (Some u) told is = ap result_ok (sym told ∙ is)
absent e None told is = refl

abbrev error_in : {T E : Type 0} → E → Result T E → E
error_in q (Ok t) = q
error_in q (Err p) = p

same-error : {T E : Type 0} (e : E) (o : Option T) {r : Result T E} {q : E} → r ≡ ok_or o e → r ≡ Err q → q ≡ e
same-error e (Some u) {q = q} told is = search (rules, sym told ∙ is)
same-error e None {q = q} told is = ap (error_in q) (sym is ∙ told)

pub none-of : {T U A : Type 0} (f : U → A) (e : Refusal) (o : Option T) (s : Result U Refusal) {r : Result T Refusal} {q : Refusal} →
    r ≡ ok_or o e → r ≡ Err q → IsErr s × IsErrAnd s (λ p. p ≡ q) → (o ≡ None) × (result_as f s ≡ refusal_as e)
none-of f e o s {q = q} told is gone = (absent e o told is, passed f q s gone ∙ ap refusal_as (same-error e o told is))

-- ---- a value

-- where the answer gives one, there is one
pub is-ok : {T A : Type 0} (f : T → A) (r : Result T Refusal) → given (result_as f r) ≡ true → IsOk r
is-ok f (Ok value) g = refl
is-ok f (Err e) g = search (rules, sym (refused _ e) ∙ g)
