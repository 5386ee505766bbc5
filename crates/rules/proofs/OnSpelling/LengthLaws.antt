-- How long the texts of a date of any kind are: dotted, ISO and exchange text and the ISO date alone. Assumes nothing.
use mathlib.Core.Path.{◌≡◌}
use mathlib.Core.Bool.{Bool, true, false, cond}
use mathlib.Core.List.{List, [], ◌++◌}
use Prim.Native.Nat.{ℕ, suc, ◌+◌, ◌-◌, ◌^◌, ◌≤◌, ◌<◌}
use native.Mathlib.Omega.{arith}
use lib.Dec.{leb, eqb}
use lib.IntN.{ℤ, pos, negsuc}
use lib.ListN.{length, length-append}
use Rattle.sign.specs.Halves.{up, dn}
use Rattle.rules.specs.Words.{bytes}
use Rattle.rules.specs.Kinds.{Kind, kR, kD, kH, kU, kE, kV, Fields, of_kind, in_game_hour}
use Rattle.rules.specs.Spelling.{decimal, filled, plain_year, iso_year, exchange_year, dotted_pair, dotted_hour, dotted, iso_month_day, iso_hour_before, iso_hour, iso_date, iso, exchange}
use Rattle.rules.proofs.OnSpelling.DecimalLaws.{digits-least, digits-most, filled-length, filled-two}
use Rattle.rules.proofs.OnKinds.KindLaws.{fit}
use Rattle.rules.proofs.OnDays.OrderLaws.{day-small, hour-small}

-- a text of lo to hi bytes
abbrev pub Sized : ℕ → ℕ → List ℕ → Type 0
Sized lo hi text = (lo ≤ length text) × (length text ≤ hi)

-- ---- the parts

decimal-size : (n : ℕ) → n < 10 ^ 20 → (k : ℕ) → n < 10 ^ suc k → Sized 1 (suc k) (decimal n)
decimal-size n h k b = (digits-least n, digits-most n h k b)

-- a year without its sign has 1 to 5 digits, or, zero-filled, the width to 5
plain_size : (n : ℕ) → n ≤ 32768 → Sized 1 5 (decimal n)
plain_size n h = decimal-size n (omega arith) 4 (omega arith)

filled-size : (width n : ℕ) → width ≤ 5 → n ≤ 32768 → Sized width 5 (filled width n)
filled-size width n w h = let s = plain_size n h in rw (filled-length width n) (omega arith)

plain-year : (y : ℤ) → dn y ≤ 32768 → up y ≤ 32767 → Sized 1 6 (plain_year y)
plain-year (pos n) a b = let s = plain_size n (omega arith) in omega arith
plain-year (negsuc n) a b = let s = plain_size (suc n) (omega arith) in omega arith

iso-year : (y : ℤ) → dn y ≤ 32768 → up y ≤ 32767 → Sized 4 6 (iso_year y)
iso-year (pos n) a b = let s = filled-size 4 n (omega arith) (omega arith) in omega arith
iso-year (negsuc n) a b = let s = filled-size 3 (suc n) (omega arith) (omega arith) in omega arith

exchange-year : (y : ℤ) → dn y ≤ 32768 → up y ≤ 32767 → Sized 4 6 (exchange_year y)
exchange-year (pos n) a b = split (leb n 9999)
  where
    split : (t : Bool) → Sized 4 6 (cond t (filled 4 n) (bytes "+" ++ filled 5 n))
    split true = let s = filled-size 4 n (omega arith) (omega arith) in omega arith
    split false = let s = filled-size 5 n (omega arith) (omega arith) in omega arith
exchange-year (negsuc n) a b = let s = filled-size 5 (suc n) (omega arith) (omega arith) in omega arith

-- month, day and hour are below 100: two digits where they are filled, else one or two
two_size : (n : ℕ) → n < 100 → Sized 1 2 (decimal n)
two_size n h = decimal-size n (omega arith) 1 (omega arith)

two-filled : (n : ℕ) → n < 100 → length (filled 2 n) ≡ 2
two-filled n h = rw (filled-two n h)

pair_size : (k : Kind) (n : ℕ) → n < 100 → Sized 1 2 (dotted_pair k n)
pair_size kR n h = two_size n h
pair_size kD n h = two_size n h
pair_size kH n h = two_size n h
pair_size kU n h = let s = two-filled n h in omega arith
pair_size kE n h = two_size n h
pair_size kV n h = two_size n h

dotted-hour : (h : ℕ) → h < 100 → length (dotted_hour h) ≤ 3
unfolding dotted_hour
dotted-hour h l = split (eqb h 0)
  where
    split : (t : Bool) → length (cond t [] (bytes "." ++ decimal h)) ≤ 3
    split true = omega arith
    split false = let s = two_size h l in omega arith

hour-before : (h : ℕ) → h < 100 → length (iso_hour_before h) ≤ 3
hour-before h l = split (eqb h 0)
  where
    split : (t : Bool) → length (cond t [] (bytes "T" ++ filled 2 (h - 1))) ≤ 3
    split true = omega arith
    split false = let s = two-filled (h - 1) (omega arith) in omega arith

iso-hour : (k : Kind) (h : ℕ) → h < 32 → length (iso_hour k h) ≤ 3
unfolding iso_hour
iso-hour kR h l = hour-before h (omega arith)
iso-hour kD h l = omega arith
iso-hour kH h l = hour-before h (omega arith)
iso-hour kU h l = omega arith
iso-hour kE h l = let s = two-filled (in_game_hour h) (omega arith) in omega arith
iso-hour kV h l = let s = two-filled h (omega arith) in omega arith

-- ---- the texts

-- "Every text has 5 to 15 bytes"
pub record TextLengths (k : Kind) (f : Fields) : Type 0 where
  pub dotted-length : Sized 5 15 (dotted k f)
  pub iso-length : Sized 5 15 (iso k f)
  pub date-length : Sized 5 15 (iso_date f)
  pub exchange-length : Sized 5 15 (exchange k f)

module _ (k : Kind) (f : Fields) (p : of_kind k f ≡ true) where
  -- the dotted text before its hour has 5 to 12
  pub dotted-size : Sized (5 + length (dotted_hour f.hour)) (12 + length (dotted_hour f.hour)) (dotted k f)
  unfolding dotted
  dotted-size =
      let t = fit k f p in
      let y = plain-year f.year t.year-low t.year-high in
      let m = pair_size k f.month (omega arith) in
      let d = pair_size k f.day (omega (arith, day-small k f p)) in
      simp length-append (omega arith)

  month-day : length (iso_month_day f) ≡ 6
  unfolding iso_month_day
  month-day =
      let t = fit k f p in
      let m = two-filled f.month (omega arith) in
      let d = two-filled f.day (omega (arith, day-small k f p)) in
      simp length-append (omega arith)

  date-size : Sized 10 12 (iso_date f)
  unfolding iso_date
  date-size =
      let t = fit k f p in let y = iso-year f.year t.year-low t.year-high in let m = month-day in
      simp length-append (omega arith)

  iso-size : Sized 10 15 (iso k f)
  unfolding iso
  iso-size = let d = date-size in let h = iso-hour k f.hour (hour-small k f p) in simp length-append (omega arith)

  exchange-size : Sized 10 15 (exchange k f)
  unfolding exchange
  exchange-size =
      let t = fit k f p in let y = exchange-year f.year t.year-low t.year-high in
      let m = month-day in let h = iso-hour k f.hour (hour-small k f p) in
      simp length-append (omega arith)

  pub text-lengths : TextLengths k f
  text-lengths =
      let d = dotted-size in let h = dotted-hour f.hour (omega (arith, hour-small k f p)) in
      let i = iso-size in let a = date-size in let e = exchange-size in
      record {
        dotted-length = omega arith;
        iso-length = omega arith;
        date-length = omega arith;
        exchange-length = omega arith;
      }
