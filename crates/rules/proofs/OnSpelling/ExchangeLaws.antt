-- #105 of document 02: what the exchange text of every date of every kind looks like; and the ISO text that it tells. Assumes nothing.
use mathlib.Core.Path.{◌≡◌, refl, sym, ap, ◌∙◌}
use mathlib.Core.Bool.{Bool, true, false, cond}
use mathlib.Core.List.{List, [], ◌++◌, append_assoc}
use Prim.Native.Nat.{ℕ, suc, ◌-◌, ◌^◌, ◌≤◌, ◌<◌}
use native.Mathlib.Omega.{arith}
use borrow.Author.Tests.{leb-true, leb-false}
use lib.Dec.{leb, eqb}
use lib.IntN.{ℤ, pos, negsuc}
use lib.ListN.{length}
use Rattle.sign.specs.Halves.{up, dn}
use Rattle.rules.specs.Words.{bytes}
use Rattle.rules.specs.Refusals.{Answer}
use Rattle.rules.specs.Kinds.{Kind, kR, kD, kH, kU, kE, kV, Fields, hour_fits, of_kind, in_game_hour}
use Rattle.rules.specs.Text.{Read, decimal_value, leading}
use Rattle.rules.specs.Spelling.{filled, iso_year, exchange_year, iso_month_day, iso_hour_before, iso_hour, iso_date, iso, exchange}
use Rattle.rules.proofs.OnRefusals.Determined.{back_one}
use Rattle.rules.proofs.OnSpelling.DecimalLaws.{digits-most, filled-length}
use Rattle.rules.proofs.OnSpelling.DigitLaws.{OnlyDigits}
use Rattle.rules.proofs.OnSpelling.FilledLaws.{filled-digits, filled-value, lead-exchange}
use Rattle.rules.proofs.OnKinds.KindLaws.{fit}
use Rattle.rules.proofs.OnDays.OrderLaws.{hours-between, day-small, in-game-hours}

-- ---- the form. It speaks of bytes, and not of a date

-- so many digits, of a value from `lo` to `hi`
pub record Digits (count lo hi : ℕ) (s : List ℕ) : Type 0 where
  pub digits : OnlyDigits s
  pub many : length s ≡ count
  pub least : lo ≤ decimal_value s
  pub most : decimal_value s ≤ hi

-- "years 0 to 9999 have four digits, all others a sign and five"
pub data YearForm : List ℕ → Type 0 where
  four : {s : List ℕ} → Digits 4 0 9999 s → YearForm s
  minus_five : {s : List ℕ} → Digits 5 1 32768 s → YearForm (bytes "-" ++ s)
  plus_five : {s : List ℕ} → Digits 5 10000 32767 s → YearForm (bytes "+" ++ s)

-- perhaps T and an hour
pub data HourForm : List ℕ → Type 0 where
  no_hour : HourForm []
  hour_of : {s : List ℕ} → Digits 2 0 23 s → HourForm (bytes "T" ++ s)

-- a year, -MM-DD, and perhaps Thh. Nothing is said of a month's length: R 1444.2.31 has an exchange text
pub record ExchangeForm (text : List ℕ) : Type 0 where
  pub year : List ℕ
  pub month : List ℕ
  pub day : List ℕ
  pub hour : List ℕ
  pub is : text ≡ year ++ (bytes "-" ++ month ++ bytes "-" ++ day) ++ hour
  pub year-form : YearForm year
  pub month-form : Digits 2 1 12 month
  pub day-form : Digits 2 1 31 day
  pub hour-form : HourForm hour

-- ---- every part has its form

-- a number that this many digits hold
filled-form : (k lo hi n : ℕ) → n < 10 ^ suc k → n < 10 ^ 20 → lo ≤ n → n ≤ hi → Digits (suc k) lo hi (filled (suc k) n)
filled-form k lo hi n b h l m =
    let v = filled-value (suc k) n h in let d = digits-most n h k b in
    record {
      digits = filled-digits (suc k) n h;
      many = rw (filled-length (suc k) n) (omega arith);
      least = omega arith;
      most = omega arith;
    }

two-form : (lo hi n : ℕ) → n < 100 → lo ≤ n → n ≤ hi → Digits 2 lo hi (filled 2 n)
two-form lo hi n b l m = filled-form 1 lo hi n b (omega arith) l m

year-formed : (y : ℤ) → dn y ≤ 32768 → up y ≤ 32767 → YearForm (exchange_year y)
year-formed (pos n) a b = by (leb n 9999) refl
  where
    by : (t : Bool) → leb n 9999 ≡ t → YearForm (cond t (filled 4 n) (bytes "+" ++ filled 5 n))
    by true e = let l = leb-true n 9999 e in four (filled-form 3 0 9999 n (omega arith) (omega arith) (omega arith) (omega arith))
    by false e = let l = leb-false n 9999 e in plus_five (filled-form 4 10000 32767 n (omega arith) (omega arith) (omega arith) (omega arith))
year-formed (negsuc n) a b = minus_five (filled-form 4 1 32768 (suc n) (omega arith) (omega arith) (omega arith) (omega arith))

before-formed : (h : ℕ) → h ≤ 24 → HourForm (iso_hour_before h)
before-formed h m = by (eqb h 0)
  where
    by : (t : Bool) → HourForm (cond t [] (bytes "T" ++ filled 2 (h - 1)))
    by true = no_hour
    by false = hour_of (two-form 0 23 (h - 1) (omega arith) (omega arith) (omega arith))

hour-formed : (k : Kind) (h : ℕ) → hour_fits k h ≡ true → HourForm (iso_hour k h)
unfolding iso_hour
hour-formed kR h e = before-formed h (hours-between kR h e).1
hour-formed kD h e = no_hour
hour-formed kH h e = before-formed h (hours-between kH h e).1
hour-formed kU h e = no_hour
hour-formed kE h e = let g = in-game-hours h e in hour_of (two-form 0 23 (in_game_hour h) (omega arith) (omega arith) (omega arith))
hour-formed kV h e = let m = hours-between kV h e in hour_of (two-form 0 23 h (omega arith) (omega arith) (omega arith))

-- ---- the law, over the kind

pub exchange-form : (k : Kind) (f : Fields) → of_kind k f ≡ true → ExchangeForm (exchange k f)
unfolding exchange iso_month_day
exchange-form k f p =
    let t = fit k f p in let d = day-small k f p in
    record {
      year = exchange_year f.year;
      month = filled 2 f.month;
      day = filled 2 f.day;
      hour = iso_hour k f.hour;
      is = refl;
      year-form = year-formed f.year t.year-low t.year-high;
      month-form = two-form 1 12 f.month (omega arith) t.month-low t.month-high;
      day-form = two-form 1 31 f.day (omega arith) t.day-low (omega arith);
      hour-form = hour-formed k f.hour t.hour-fits;
    }

-- ---- the exchange text tells the ISO text: the same year, spelled otherwise, and the same bytes after it

-- a year and what follows it, as the ISO text has them
abbrev pub iso_again : Answer (Read ℤ) → List ℕ
iso_again a = back_one (λ (r : Read ℤ). iso_year r.value ++ r.rest) [] a

pub exchange-tells : (k : Kind) (f : Fields) → of_kind k f ≡ true → iso_again (leading (exchange k f)) ≡ iso k f
unfolding exchange iso iso_date iso_month_day
exchange-tells k f p =
    let t = fit k f p in let m = iso_month_day f in let h = iso_hour k f.hour in
    ap (λ (s : List ℕ). iso_again (leading s)) (append_assoc (exchange_year f.year) m h)
    ∙ ap iso_again (lead-exchange f.year (m ++ h) t.year-low t.year-high refl)
    ∙ sym (append_assoc (iso_year f.year) m h)
