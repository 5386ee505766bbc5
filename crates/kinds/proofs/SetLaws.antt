-- A field set whose numbers are wider than those of any date. Assumes nothing.
use mathlib.Core.Path.{◌≡◌, refl}
use mathlib.Core.Bool.{Bool, true, false}
use Prim.Native.Nat.{ℕ, ◌≤◌, ◌<◌}
use Rattle.std.specs.Prelude.{Result, Ok, Err, None, OkIff}
use Rattle.std.specs.Result.{result_ok}
use Rattle.std.proofs.Common.{rules}
use Rattle.sign.specs.Halves.{up, dn}
use Rattle.rules.specs.Refusals.{Gives, Refused, demand}
use Rattle.rules.specs.Kinds.{Kind, Fields, of_kind, made}
use Rattle.rules.proofs.OnKinds.KindLaws.{fit}
use Rattle.rules.proofs.OnDays.OrderLaws.{day-small, hour-small}

-- what the fields of every date are below
pub record Narrow (f : Fields) : Type 0 where
  pub year-low : dn f.year ≤ 32768
  pub year-high : up f.year ≤ 32767
  pub month : f.month ≤ 12
  pub day : f.day < 32
  pub hour : f.hour < 32

narrow : (k : Kind) (f : Fields) → of_kind k f ≡ true → Narrow f
narrow k f p =
    let t = fit k f p in
    record {
      year-low = t.year-low;
      year-high = t.year-high;
      month = t.month-high;
      day = day-small k f p;
      hour = hour-small k f p;
    }

pub no-date : (k : Kind) (n : ℕ) (f : Fields) → (Narrow f → ⊥) → made k n f ≡ Refused n
unfolding made
no-date k n f never = inner (of_kind k f) refl
  where
    inner : (t : Bool) → of_kind k f ≡ t → demand t n (Gives f) ≡ Refused n
    inner true p = absurd (never (narrow k f p))
    inner false p = refl

-- a number that a conversion refuses lies outside the type's range
pub outside : {T E : Type 0} (P : Type 0) (v : T) (r : Result T E) → OkIff r P v → result_ok r ≡ None → P → ⊥
outside P v (Ok x) told none p = search rules
outside P v (Err e) told none p = told p
