-- #102: the ISO reader gives a date exactly where the text is that date's ISO text, in E with an even hour; and exactly when it refuses
-- with 1, and with 2. Each is one statement over the kinds. Assumes nothing.
use mathlib.Core.Path.{◌≡◌, refl, sym, ap, ◌∙◌, subst}
use mathlib.Core.Logic.{◌↔◌}
use mathlib.Core.Bool.{Bool, true, false, cond, not}
use mathlib.Core.List.{List, [], ◌∷◌, ◌++◌, append_assoc, append-nil}
use Prim.Native.Nat.{ℕ, ◌+◌, ◌-◌, ◌*◌, ◌/◌, ◌%◌, ◌≤◌, ◌<◌}
use native.Mathlib.Omega.{arith}
use borrow.Author.Tests.{le-leb, lt-leb, leb-true, leb-false, eqb-true, eqb-false, eq-eqb}
use lib.Dec.{T, leb, eqb}
use lib.ListN.{length}
use Rattle.rules.specs.Words.{byte, bytes}
use Rattle.rules.specs.Refusals.{Answer, Gives, Refused, demand, given, too_long, not_text}
use Rattle.rules.specs.Kinds.{Kind, kR, kD, kH, kU, kE, kV, Fields, hour_fits, of_kind, in_game_hour}
use Rattle.rules.specs.Text.{leading, text_limit}
use Rattle.rules.specs.Spelling.{filled, iso_year, iso_month_day, iso_hour_before, iso_hour, iso_date, iso}
use Rattle.rules.proofs.OnSpelling.DigitLaws.{read-filled}
use Rattle.rules.proofs.OnSpelling.FilledLaws.{lead-iso}
use Rattle.rules.proofs.OnSpelling.LengthLaws.{text-lengths}
use Rattle.rules.proofs.OnWords.SameLaws.{same-itself}
use Rattle.rules.proofs.OnKinds.KindLaws.{left, right, high, yes-within, fit, with-hour}
use Rattle.rules.proofs.OnDays.OrderLaws.{day-small, hour-small}
use Rattle.rules.proofs.OnText.TextBack.{date-settled}
use Rattle.rules.proofs.OnRefusals.OutcomeLaws.{Outcome, gives, refuses, outcome-value, outcome-refusal}
use Rattle.requests.specs.IsoReader.{even_hour, comes_back, Names, named_hour, iso_hour_after, iso_part, spelled_so, named, read_iso, evened, iso_back}
use Rattle.requests.proofs.OnIsoReader.NamedLaws.{outcome-named}

-- ---- a date's own ISO text gives the date

-- T and two digits
read_named : (k : Kind) (n : ℕ) → n < 100 → iso_hour_after k (bytes "T" ++ filled 2 n) ≡ Gives (named_hour k n)
unfolding iso_hour_after
read_named k n h = rw (rw (append-nil (filled 2 n)) at (read-filled n [] h))

-- R and H: hour - 1, if the hour is not 0
read-before : (k : Kind) (h : ℕ) → h < 32 → named_hour k (h - 1) ≡ h - 1 + 1 → iso_hour_after k (iso_hour_before h) ≡ Gives h
unfolding iso_hour_after
read-before k h l e = by (eqb h 0) refl
  where
    by : (t : Bool) → eqb h 0 ≡ t → iso_hour_after k (cond t [] (bytes "T" ++ filled 2 (h - 1))) ≡ Gives h
    by true q = let z = eqb-true h 0 q in rw z
    by false q =
        let n : (h ≡ 0 → ⊥) = eqb-false h 0 q in let b : h - 1 + 1 ≡ h = omega arith in
        read_named k (h - 1) (omega arith) ∙ ap Gives (e ∙ b)

read-iso-hour : (k : Kind) (h : ℕ) → h < 32 → hour_fits k h ≡ true → even_hour k h ≡ true → iso_hour_after k (iso_hour k h) ≡ Gives h
unfolding iso_hour iso_hour_after
read-iso-hour kR h l e v = read-before kR h l refl
read-iso-hour kD h l e v = let z = eqb-true h 0 e in rw z
read-iso-hour kH h l e v = read-before kH h l refl
read-iso-hour kU h l e v = let z = eqb-true h 0 e in rw z
read-iso-hour kE h l e v =
    let z = eqb-true (h % 2) 0 v in let b : (in_game_hour h - 8) * 2 ≡ h = omega arith in
    read_named kE (in_game_hour h) (omega arith) ∙ ap Gives b
read-iso-hour kV h l e v = read_named kV h (omega arith)

abbrev after_year : Kind → Fields → List ℕ
after_year k f = byte "-" ∷ (filled 2 f.month ++ (byte "-" ∷ (filled 2 f.day ++ iso_hour k f.hour)))

year-first : (k : Kind) (f : Fields) → iso k f ≡ iso_year f.year ++ after_year k f
unfolding iso iso_date iso_month_day
year-first k f = simp append_assoc

read-iso-part : (k : Kind) (f : Fields) → f.month < 100 → f.day < 100 → iso_hour_after k (iso_hour k f.hour) ≡ Gives f.hour →
    iso_part k f.year (after_year k f) ≡ Gives f
unfolding iso_part
read-iso-part k f m d h =
    rw (read-filled f.month (byte "-" ∷ (filled 2 f.day ++ iso_hour k f.hour)) m, read-filled f.day (iso_hour k f.hour) d, h)

read-own : (k : Kind) (f : Fields) → comes_back k f ≡ true → read_iso k (iso k f) ≡ Gives f
unfolding read_iso named spelled_so comes_back
read-own k f q =
    let p = left (of_kind k f) (even_hour k f.hour) q in let v = right (of_kind k f) (even_hour k f.hour) q in
    let t = fit k f p in let l = (text-lengths k f p).iso-length in let d = day-small k f p in
    let h = read-iso-hour k f.hour (hour-small k f p) t.hour-fits v in
    rw (
      le-leb (length (iso k f)) text_limit (omega arith),
      ap leading (year-first k f),
      lead-iso f.year (after_year k f) t.year-low t.year-high refl,
      read-iso-part k f (omega arith) (omega arith) h,
      date-settled k not_text f p,
      same-itself (iso k f),
    )

-- ---- the three statements

-- the refusal that a text has where it has one
abbrev Numbered : List ℕ → ℕ → Type 0
Numbered s n = n ≡ cond (leb (length s) text_limit) not_text too_long

outcome-iso : (k : Kind) (s : List ℕ) → Outcome (Numbered s) (Names k s) (read_iso k s)
unfolding read_iso
outcome-iso k s = by (leb (length s) text_limit)
  where
    by : (t : Bool) → Outcome (λ n. n ≡ cond t not_text too_long) (Names k s) (demand t too_long (named k s))
    by true = outcome-named refl k s
    by false = refuses refl

-- f is a date of the kind, in E with an even hour, and this is its ISO text
pub iso-law : (k : Kind) (s : List ℕ) (f : Fields) → (read_iso k s ≡ Gives f) ↔ Names k s f
iso-law k s f = (outcome-value (outcome-iso k s), λ n. ap (read_iso k) n.1 ∙ read-own k f n.0)

-- 1: the text is over the limit
pub iso-too-long : (k : Kind) (s : List ℕ) → (read_iso k s ≡ Refused too_long) ↔ (text_limit < length s)
unfolding read_iso
iso-too-long k s = (λ e. by (leb (length s) text_limit) refl (outcome-refusal (outcome-iso k s) e), λ h. rw (lt-leb (length s) text_limit h))
  where
    by : (t : Bool) → leb (length s) text_limit ≡ t → too_long ≡ cond t not_text too_long → text_limit < length s
    by true p q = absurd (omega arith)
    by false p q = leb-false (length s) text_limit p

-- 2: it is not over the limit, and is no date's
pub iso-not-text : (k : Kind) (s : List ℕ) → (read_iso k s ≡ Refused not_text) ↔ ((length s ≤ text_limit) × ((f : Fields) → Names k s f → ⊥))
iso-not-text k s = (
  λ e. (fits (leb (length s) text_limit) refl (outcome-refusal (outcome-iso k s) e), λ f n. other f (sym e ∙ (iso-law k s f).1 n)),
  λ h. refused h.0 h.1 (outcome-iso k s),
)
  where
    fits : (t : Bool) → leb (length s) text_limit ≡ t → not_text ≡ cond t not_text too_long → length s ≤ text_limit
    fits true p q = leb-true (length s) text_limit p
    fits false p q = absurd (omega arith)

    other : (f : Fields) → Refused not_text ≡ Gives f → ⊥
    other f e = subst (λ y. T (not (given y))) e tt

    refused : {x : Answer Fields} → length s ≤ text_limit → ((f : Fields) → Names k s f → ⊥) → Outcome (Numbered s) (Names k s) x → x ≡ Refused not_text
    refused l none (gives {a = f} n) = absurd (none f n)
    refused l none (refuses n) = ap Refused (n ∙ ap (λ (t : Bool). cond t not_text too_long) (le-leb (length s) text_limit l))

-- no ISO text has over 15 bytes: from 16 to the limit a text is 2 (#104 moved the limit alone)
pub iso-fifteen-at-most : (k : Kind) (s : List ℕ) → 15 < length s → length s ≤ text_limit → read_iso k s ≡ Refused not_text
unfolding comes_back
iso-fifteen-at-most k s long fits = (iso-not-text k s).1 (fits, none)
  where
    none : (f : Fields) → Names k s f → ⊥
    none f n =
        let l = (text-lengths k f (left (of_kind k f) (even_hour k f.hour) n.0)).iso-length in
        let e = ap length n.1 in
        omega arith

-- ---- every date's ISO text: R, D, H, U and V come back as they are, E with the even component

hour-same : (k : Kind) (h : ℕ) → iso_hour k (evened k h) ≡ iso_hour k h
unfolding iso_hour
hour-same kR h = refl
hour-same kD h = refl
hour-same kH h = refl
hour-same kU h = refl
hour-same kE h = let e : in_game_hour (h / 2 * 2) ≡ in_game_hour h = omega arith in rw e
hour-same kV h = refl

hour-evened : (k : Kind) (h : ℕ) → hour_fits k h ≡ true → (hour_fits k (evened k h) ≡ true) × (even_hour k (evened k h) ≡ true)
hour-evened kR h e = (e, refl)
hour-evened kD h e = (e, refl)
hour-evened kH h e = (e, refl)
hour-evened kU h e = (e, refl)
hour-evened kE h e = let m = high 0 22 h e in (yes-within 0 22 (h / 2 * 2) (omega arith) (omega arith), eq-eqb (h / 2 * 2 % 2) 0 (omega arith))
hour-evened kV h e = (e, refl)

pub iso-back : (k : Kind) (f : Fields) → of_kind k f ≡ true → read_iso k (iso k f) ≡ Gives (iso_back k f)
unfolding iso_back iso iso_date iso_month_day comes_back
iso-back k f p =
    let h = hour-evened k f.hour (fit k f p).hour-fits in
    let date : of_kind k (iso_back k f) ≡ true = with-hour k f (evened k f.hour) p h.0 in
    let text : iso k f ≡ iso k (iso_back k f) = ap (λ (l : List ℕ). iso_date f ++ l) (sym (hour-same k f.hour)) in
    (iso-law k (iso k f) (iso_back k f)).1 (rw (date, h.1), text)
