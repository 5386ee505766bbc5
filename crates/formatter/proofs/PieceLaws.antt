-- A separated number, by whether it has two digits; a year, by its sign; and the texts of `rules` as such pieces. Assumes nothing.
use mathlib.Core.Path.{◌≡◌, refl, ◌∙◌}
use mathlib.Core.Bool.{Bool, true, false, cond}
use mathlib.Core.List.{List, [], ◌∷◌, ◌++◌, append_assoc, append-nil}
use Prim.Native.Nat.{ℕ, suc, ◌+◌, ◌-◌, ◌≤◌, ◌<◌}
use native.Mathlib.Omega.{arith}
use borrow.Author.Tests.{ne_eqb, le-leb, lt-leb, leb-true, leb-false}
use lib.Dec.{leb}
use lib.IntN.{ℤ, pos, negsuc}
use lib.ListN.{length}
use Rattle.std.specs.Prelude.{Option}
use Rattle.sign.specs.Halves.{Halved}
use Rattle.rules.specs.Words.{byte, bytes}
use Rattle.rules.specs.Refusals.{Gives}
use Rattle.rules.specs.Kinds.{Kind, Fields, Stored, handed}
use Rattle.rules.specs.Spelling.{digit, filled, plain_year, iso_year, exchange_year, dotted_pair, dotted_hour, dotted, iso_hour_before, iso_month_day, iso_hour, iso_date, iso, exchange}
use Rattle.rules.proofs.OnSpelling.DecimalLaws.{one-digit, two_digits, filled-one, filled-two}
use Rattle.rules.proofs.OnKinds.KindLaws.{fit}
use Rattle.rules.proofs.OnDays.OrderLaws.{day-small, hour-small}
use Rattle.rules.proofs.OnKinds.PackLaws.{handed-tells}
use Rattle.formatter.specs.Pieces.{filled_year, year_text, separated, hour_text, text_of}
use Rattle.formatter.specs.declared.pieces.Style.{Style}
use Rattle.formatter.specs.declared.pieces.Separated.{Separated}
use Rattle.formatter.specs.declared.years.Year.{Year}

-- ---- a separated number

pub separated-wide : (s : Style) (n : ℕ) → s.wide ≡ true → separated s n ≡ s.separator ∷ filled 2 n
unfolding separated
separated-wide s n e = rw e

pub separated-two : (s : Style) (n : ℕ) → s.wide ≡ false → 10 ≤ n → n < 100 → separated s n ≡ s.separator ∷ filled 2 n
unfolding separated
separated-two s n e a b = rw (e, two_digits n a b, filled-two n b)

pub separated-one : (s : Style) (n : ℕ) → s.wide ≡ false → n < 10 → separated s n ≡ s.separator ∷ digit n ∷ []
unfolding separated
separated-one s n e a = rw (e, one-digit n a)

-- by the number alone
pub separated-by : (s : Style) (n : ℕ) → s.wide ≡ false → n < 100 →
    separated s n ≡ cond (leb 10 n) (s.separator ∷ filled 2 n) (s.separator ∷ digit n ∷ [])
separated-by s n e h = split (leb 10 n) refl
  where
    split : (t : Bool) → leb 10 n ≡ t → separated s n ≡ cond t (s.separator ∷ filled 2 n) (s.separator ∷ digit n ∷ [])
    split true p = separated-two s n e (leb-true 10 n p) h
    split false p = separated-one s n e (leb-false 10 n p)

-- what it needs of a buffer of m bytes
pub two-room : {t : Bool} (s : Style) (n m : ℕ) → n < 100 → separated s n ≡ cond t (s.separator ∷ filled 2 n) (s.separator ∷ digit n ∷ []) → t ≡ true
    → length (separated s n) ≤ m → 3 ≤ m
two-room s n m h e p r = rw (e, p, filled-two n h) at r

-- ---- a year

-- by its halves: from 0 on it is what is up, before it is what is down
pub year-above : {t u d : ℕ} (a b : ℕ) (y : ℤ) → Halved t y u d → d ≤ 0 → filled a u ≡ filled_year a b y
year-above a b (pos n) h z = rw h.up_is
year-above a b (negsuc n) h z = let q = h.dn-is in absurd (omega arith)

pub year-below : {t u d : ℕ} (a b : ℕ) (y : ℤ) → Halved t y u d → 0 < d → bytes "-" ++ filled b d ≡ filled_year a b y
year-below a b (pos n) h z = let q = h.dn-is in absurd (omega arith)
year-below a b (negsuc n) h z = rw h.dn-is

-- the years of the three texts
pub plain-filled : (y : ℤ) → filled_year 1 1 y ≡ plain_year y
plain-filled (pos n) = filled-one n
plain-filled (negsuc n) = rw (filled-one (suc n))

-- that of the exchange text has a plus above 9999
pub exchange-filled : {t u d : ℕ} (y : ℤ) → Halved t y u d → u ≤ 9999 → filled_year 4 5 y ≡ exchange_year y
exchange-filled (pos n) h l = rw (le-leb n 9999 (omega (arith, h.up_is)))
exchange-filled (negsuc n) h l = refl

pub exchange-plus : {t u d : ℕ} (y : ℤ) → Halved t y u d → 9999 < u → bytes "+" ++ filled 5 u ≡ exchange_year y
exchange-plus (pos n) h l = rw (← h.up_is, lt-leb n 9999 (omega (arith, h.up_is)))
exchange-plus (negsuc n) h l = let z = h.up_is in absurd (omega arith)

-- ---- an hour that was raised by 1 is lowered again

pub lowered : (h : ℕ) → iso_hour_before (h + 1) ≡ bytes "T" ++ filled 2 h
lowered h = let back : h + 1 - 1 ≡ h = omega arith in rw (ne_eqb (h + 1) 0 (λ e. omega arith), back)

-- ---- the texts of `rules`, piece by piece

abbrev iso_style : Style
iso_style = record { separator = byte "-"; wide = true }

pub dotted-pieces : (k : Kind) (f : Fields) (y : Year) (s : Style) (h : Option Separated) → year_text y ≡ plain_year f.year
    → ((n : ℕ) → separated s n ≡ bytes "." ++ dotted_pair k n) → hour_text h ≡ dotted_hour f.hour
    → text_of y s f.month f.day h ≡ dotted k f
unfolding text_of dotted
dotted-pieces k f y s h e p q = rw (e, p f.month, p f.day, q) (simp append_assoc)

iso-pieces : (f : Fields) (y : Year) (h : Option Separated) {year hour : List ℕ} → year_text y ≡ year → hour_text h ≡ hour
    → text_of y iso_style f.month f.day h ≡ year ++ iso_month_day f ++ hour
unfolding text_of separated iso_month_day
iso-pieces f y h e q = rw (e, q) (simp append_assoc)

pub iso-text : (k : Kind) (f : Fields) (y : Year) (h : Option Separated) → year_text y ≡ iso_year f.year → hour_text h ≡ iso_hour k f.hour
    → text_of y iso_style f.month f.day h ≡ iso k f
unfolding iso iso_date
iso-text k f y h e q = iso-pieces f y h e q

pub exchange-text : (k : Kind) (f : Fields) (y : Year) (h : Option Separated) → year_text y ≡ exchange_year f.year → hour_text h ≡ iso_hour k f.hour
    → text_of y iso_style f.month f.day h ≡ exchange k f
unfolding exchange
exchange-text k f y h e q = iso-pieces f y h e q

pub date-text : (f : Fields) (y : Year) (h : Option Separated) → year_text y ≡ iso_year f.year → hour_text h ≡ []
    → text_of y iso_style f.month f.day h ≡ iso_date f
unfolding iso_date
date-text f y h e q = iso-pieces f y h e q ∙ append-nil _

-- the numbers of a date handed in have at most two digits
pub record Small (f : Fields) : Type 0 where
  pub month : f.month < 100
  pub day : f.day < 100
  pub hour : f.hour < 99

pub small : (k : Kind) (d : Stored) (f : Fields) → handed k d ≡ Gives f → Small f
small k d f e =
    let p = (handed-tells k d f e).of-kind in
    let t = fit k f p in let l = day-small k f p in let h = hour-small k f p in
    record { month = omega arith; day = omega arith; hour = omega arith }
