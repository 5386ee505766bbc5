-- A field table across the boundary: how large the counts are, and how many lookups one call answers. Assumes nothing.
use mathlib.Core.Path.{◌≡◌, refl}
use mathlib.Core.Bool.{Bool, false}
use mathlib.Core.List.{List}
use Prim.Native.Nat.{ℕ, ◌*◌, ◌/◌, ◌≤◌}
use native.Mathlib.Omega.{arith}
use lib.Dec.{lit<}
use lib.IntN.{ℤ}
use lib.ListN.{length}
use Rattle.std.specs.Prelude.{Result}
use Rattle.std.proofs.Common.{rules}
use Rattle.rules.specs.Refusals.{Answer, Gives, Refused, RefusedAt, ◌then◌, given}
use Rattle.rules.specs.Kinds.{Kind}
use Rattle.rules.specs.Numbers.{reads_numbers, guesses}
use Rattle.rules.specs.Book.{pick, kind_code}
use Rattle.rules.proofs.OnKinds.CodeLaws.{outcome-kind}
use Rattle.rules.proofs.OnBook.FrameLaws.{Sensible}
use Rattle.requests.specs.FieldTable.{TableFormat, table_frame, table1, bad_entry, kind_among, game_kind, declaring, declared_by, entry_for, entries, counted, check, entry_at, declare_in, remove_in, declared, removed}
use Rattle.requests.proofs.OnFieldTable.HeldLaws.{sensible-table, found-holds}
use Rattle.requests.specs.Fours.{least}
use Rattle.requests.proofs.OnFours.FourLaws.{least_first, least-second}
use Rattle.requests.proofs.OnFieldTable.AfterLaws.{after-declare, after-remove}
use Rattle.refusals.specs.declared.Refusal.{Refusal}
use Rattle.field_table.specs.Views.{checked_as, changed_as}
use Rattle.pennyquill.specs.Boundary.{number_of, place_of}
use Rattle.pennyquill.proofs.Sizes.{Any, Plain, small-then, small-within, plain-then, plain-demand, plain-gives, small-place, small-outcome}
use Rattle.pennyquill.proofs.BookSizes.{framed-any, pick_small}
use Rattle.pennyquill.specs.Tables.{asked, lookups, answered}

-- ---- counts

sensible : Sensible (table_frame table1)
sensible = sensible-table table1 (lit< tt)

few : (t : List ℕ) (rs : List (List ℕ)) → entries table1 t ≡ Gives rs → length rs ≤ 4096
few t rs e = let m = (found-holds table1 sensible t rs e).framed.most in omega arith

-- of entries that are never many, and whose refusal has no place, whatever table they come from
pub counted-by : (x : Answer (List (List ℕ))) → Plain x → ((rs : List (List ℕ)) → x ≡ Gives rs → length rs ≤ 4096) → number_of (counted x) ≤ 4096
unfolding counted
counted-by (Gives rs) plain most = most rs refl
counted-by (Refused n) plain most = omega arith
counted-by (RefusedAt n place) plain most = plain.is

-- so is what the code says of them: a check's answer, and that of a declaration or a removal
pub checked-by : (x : Answer (List (List ℕ))) → Plain x → ((rs : List (List ℕ)) → x ≡ Gives rs → length rs ≤ 4096) →
    (r : Result ℕ Refusal) → checked_as r ≡ counted x → number_of (checked_as r) ≤ 4096
checked-by x plain most r e = rw e (counted-by x plain most)

pub changed-by : (x : Answer (List (List ℕ))) → Plain x → ((rs : List (List ℕ)) → x ≡ Gives rs → length rs ≤ 4096) →
    (r : Result ℕ Refusal) → changed_as r ≡ counted x → number_of (changed_as r) ≤ 4096
changed-by = checked-by

pub entries-plain : (table : TableFormat) (s : List ℕ) → Plain (entries table s)
unfolding entries
entries-plain table s = plain-then (record { is = framed-any (table_frame table) s }) (λ rs. plain-demand _ _ (plain-gives rs))

kind-plain : (allowed : Kind → Bool) (code : ℕ) → Plain (kind_among allowed code)
unfolding kind_among
kind-plain allowed code =
    plain-then (record { is = small-outcome (outcome-kind kind_code bad_entry code {R = λ n. Unit {0}} tt) }) (λ k. plain-demand _ _ (plain-gives k))

declaring-plain : (key_size key code : ℕ) → Plain (declaring key_size key code)
unfolding declaring
declaring-plain key_size key code = plain-demand _ _ (plain-then (kind-plain reads_numbers code) (λ k. plain-gives _))

pub entry-plain : (key_size key code : ℕ) → Plain (entry_for key_size key code)
unfolding entry_for
entry-plain key_size key code = plain-then (declaring-plain key_size key code) (λ d. plain-gives _)

pub declare-plain : (table : TableFormat) (s : List ℕ) (rs : List (List ℕ)) (r : List ℕ) → Plain (declare_in table s rs r)
unfolding declare_in
declare-plain table s rs r = plain-demand _ _ (plain-gives _)

pub remove-plain : (key_size key : ℕ) (rs : List (List ℕ)) → Plain (remove_in key_size key rs)
unfolding remove_in
remove-plain key_size key rs = plain-demand _ _ (plain-gives _)

declared-plain : (s : List ℕ) (field code : ℕ) → Plain (declared table1 s field code)
unfolding declared
declared-plain s field code =
    plain-then (entries-plain table1 s) (λ rs. plain-then (entry-plain 2 field code) (λ r. declare-plain table1 s rs r))

removed-plain : (s : List ℕ) (field : ℕ) → Plain (removed table1 s field)
unfolding removed
removed-plain s field = plain-then (entries-plain table1 s) (λ rs. plain-demand _ _ (remove-plain 2 field rs))

pub checked-small : (s : List ℕ) → number_of (check table1 s) ≤ 4096
checked-small s = counted-by (entries table1 s) (entries-plain table1 s) (few s)

pub declared-small : (s : List ℕ) (field code : ℕ) → number_of (counted (declared table1 s field code)) ≤ 4096
declared-small s field code =
    counted-by (declared table1 s field code) (declared-plain s field code) (λ rs d. few _ rs (after-declare table1 sensible s field code rs d))

pub removed-small : (s : List ℕ) (field : ℕ) → number_of (counted (removed table1 s field)) ≤ 4096
removed-small s field =
    counted-by (removed table1 s field) (removed-plain s field) (λ rs d. few _ rs (after-remove table1 sensible s field rs d))

-- what an entry declares has no place either
pub picked-plain : (key_size : ℕ) (rs : List (List ℕ)) (place : ℕ) → Plain (pick rs place then declared_by key_size)
unfolding declared_by
picked-plain key_size rs place = plain-then (record { is = pick_small rs place }) (λ r. declaring-plain key_size _ _)

pub entry-small : (s : List ℕ) (place : ℕ) → place_of (entry_at table1 s place) ≤ 4096
unfolding entry_at
entry-small s place = small-place (entry_at table1 s place) (plain-then (entries-plain table1 s) (λ rs. picked-plain 2 rs place)).is

-- ---- the whole call

module _ (s : List ℕ) (game : ℕ) (fields : List ℕ) (numbers : List ℤ) (out : List ℕ) where
  pub all_asked : {n : ℕ} {k : Kind} → Gives n ≡ check table1 s → Gives k ≡ game_kind game → lookups s game fields numbers out ≡ Gives (asked fields numbers out)
  unfolding lookups
  all_asked e g = rw (← e, ← g)

  pub no-game : {n : ℕ} → Gives n ≡ check table1 s → Refused bad_entry ≡ game_kind game → lookups s game fields numbers out ≡ Refused bad_entry
  unfolding lookups
  no-game e g = rw (← e, ← g)

  -- at a refusal nothing is written
  pub unanswered : (x : Answer ℕ) → given x ≡ false → answered x s game fields numbers out ≡ out
  unanswered (Gives n) e = search (rules, e)
  unanswered (Refused m) e = refl
  unanswered (RefusedAt m place) e = refl

-- there are so many fields, numbers and fours
pub record Enough (n fields numbers out : ℕ) : Type 0 where
  pub in-fields : n ≤ fields
  pub in-numbers : n ≤ numbers
  pub in-out : n * 4 ≤ out
  pub counts : n ≤ 4294967295

pub enough : (a b c : ℕ) → Enough (least (least a b) (least (c / 4) 4294967295)) a b c
enough a b c =
    let p = least_first (least a b) (least (c / 4) 4294967295) in
    let q = least-second (least a b) (least (c / 4) 4294967295) in
    let f = least_first a b in let g = least-second a b in
    let h = least_first (c / 4) 4294967295 in let i = least-second (c / 4) 4294967295 in
    record { in-fields = omega arith; in-numbers = omega arith; in-out = omega arith; counts = omega arith }

check-plain : (s : List ℕ) → Plain (check table1 s)
unfolding counted
check-plain s = plain-then (entries-plain table1 s) (λ rs. plain-gives _)

abbrev Held : ℕ → Type 0
Held n = n ≤ 4294967295

pub lookups-small : (s : List ℕ) (game : ℕ) (fields : List ℕ) (numbers : List ℤ) (out : List ℕ) → number_of (lookups s game fields numbers out) ≤ 4294967295
unfolding lookups
lookups-small s game fields numbers out =
    small-within 4294967295 (omega arith) (lookups s game fields numbers out)
    (small-then Any Held (check table1 s) _ (check-plain s).is
    (λ n any. small-then Any Held (game_kind game) _ (kind-plain guesses game).is
    (λ k any. (enough (length fields) (length numbers) (length out)).counts)))
