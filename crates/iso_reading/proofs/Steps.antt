-- The ISO reader's answer, by the steps of the code: the leading number, the parts, the date of these fields, the date's own text.
-- Assumes nothing.
use mathlib.Core.Path.{◌≡◌, refl, sym, ap, ◌∙◌}
use mathlib.Core.Bool.{Bool, true, false}
use mathlib.Core.List.{List}
use Prim.Native.Nat.{ℕ, ◌<◌}
use native.Mathlib.Omega.{arith}
use lib.Dec.{lit<}
use lib.IntN.{ℤ, nat_abs}
use lib.ListN.{drop}
use Rattle.std.specs.Prelude.{Option, Some, None}
use Rattle.rules.specs.Words.{same_bytes}
use Rattle.rules.specs.Refusals.{Answer, Gives, Refused, ◌then◌, demand, given, not_text}
use Rattle.rules.specs.Kinds.{Kind, Fields, Stored, no_mark, unpacked, stored, store, handed, settled}
use Rattle.rules.specs.Text.{Read}
use Rattle.rules.specs.Spelling.{iso}
use Rattle.rules.proofs.OnKinds.PackLaws.{unpack-pack, handed-back}
use Rattle.rules.proofs.OnRefusals.OutcomeLaws.{Outcome, gives, refuses, Dated, outcome-so, outcome-settled}
use Rattle.rules.proofs.OnText.LeadingLaws.{year-out}
use Rattle.requests.specs.IsoReader.{iso_part, spelled_so, named}
use Rattle.requests.proofs.OnIsoReader.NamedLaws.{outcome-iso-part}
use Rattle.scalar.specs.Number.{most63, leading_number}
use Rattle.scalar.specs.Views.{leading_as}
use Rattle.scalar.specs.declared.Leading.{Leading}
use Rattle.dotted.specs.Views.{parts_as}
use Rattle.dotted.specs.declared.Parts.{Parts}
use Rattle.dotted.proofs.Laws.{then-then}
use Rattle.kinds.specs.Views.{bits_of}
use Rattle.kinds.specs.declared.Packed.{Packed}
use Rattle.reading.proofs.Leads.{no-year, led-none, led-some}

-- ---- what follows the leading number

abbrev rest_named : Kind → List ℕ → Read ℤ → Answer Fields
rest_named k s r = iso_part k r.value r.rest then λ f. settled k not_text f then spelled_so k s

-- a leading number of more than 63 bits is no year
rest_out : (k : Kind) (s : List ℕ) (r : Read ℤ) → most63 < nat_abs r.value → rest_named k s r ≡ Refused not_text
rest_out k s r h =
    then-then (iso_part k r.value r.rest) (settled k not_text) (spelled_so k s)
    ∙ ap (λ (x : Answer Fields). x then spelled_so k s)
    (year-out k (outcome-so (λ f p. p.0) (outcome-iso-part refl k r.value r.rest)) (no-year r.value h))

-- ---- the date of the fields, and then its own text

none-stored : (k : Kind) (s : List ℕ) {x : Answer Fields} → Outcome (λ n. n ≡ not_text) (Dated k) x → store x ≡ Refused not_text →
    store (x then spelled_so k s) ≡ Refused not_text
none-stored k s (gives p) e = let z : ◌≡◌ {A = ℕ} 0 1 = cc in absurd (omega arith)
none-stored k s (refuses two) e = e

-- where the date d is one of the kind, t says whether the text is its own
some_stored : (k : Kind) (s : List ℕ) (d : Stored) (t : Bool) → (given (handed k d) ≡ true → t ≡ same_bytes s (iso k (unpacked d))) →
    {x : Answer Fields} → Outcome (λ n. n ≡ not_text) (Dated k) x → store x ≡ Gives d → store (x then spelled_so k s) ≡ demand t not_text (Gives d)
unfolding spelled_so
some_stored k s d t own (gives {a = f} p) e =
    let same : stored f ≡ d = cc in
    let back : f ≡ unpacked d = sym (unpack-pack k no_mark f (lit< tt) p) ∙ ap unpacked same in
    let is : handed k d ≡ Gives f = ap (handed k) (sym same) ∙ handed-back k f p in
    let test : same_bytes s (iso k f) ≡ t = ap (λ (g : Fields). same_bytes s (iso k g)) back ∙ sym (own (ap given is)) in
    rw test (by t same)
  where
    by : (t : Bool) → stored f ≡ d → store (demand t not_text (Gives f)) ≡ demand t not_text (Gives d)
    by true e = ap Gives e
    by false e = refl
some_stored k s d t own (refuses two) e = let z : ◌≡◌ {A = ℕ} 0 1 = cc in absurd (omega arith)

-- ---- what the code answers, from what its calls ensure

module _ (k : Kind) (s : List ℕ) where
  abbrev pub named_date : Answer Stored
  named_date = store (named k s)

  pub lead-refused : Refused not_text ≡ leading_number s → Refused not_text ≡ named_date
  unfolding named
  lead-refused e = sym (ap store (led-none (rest_named k s) (rest_out k s) s {lead = None} e refl))

  module _ (r : Leading) (led : leading_as s (Some r) ≡ leading_number s) where
    goes_on : (parts : Option Parts) → ((y : ℤ) → parts_as y parts ≡ iso_part k y (drop r.next s)) →
        named_date ≡ store (parts_as r.value parts then λ f. settled k not_text f then spelled_so k s)
    unfolding named
    goes_on parts is-parts =
        ap store (led-some (rest_named k s) (rest_out k s) s led refl)
        ∙ ap (λ (x : Answer Fields). store (x then λ f. settled k not_text f then spelled_so k s)) (sym (is-parts r.value))

    pub parts-refused : ((y : ℤ) → parts_as y None ≡ iso_part k y (drop r.next s)) → Refused not_text ≡ named_date
    parts-refused is-parts = sym (goes_on None is-parts)

    module _ (p : Parts) (is-parts : (y : ℤ) → parts_as y (Some p) ≡ iso_part k y (drop r.next s)) where
      abbrev pub settled_date : Answer Stored
      settled_date = store (settled k not_text (record { year = r.value; month = p.month; day = p.day; hour = p.hour }))

      outcome : Outcome (λ n. n ≡ not_text) (Dated k) (settled k not_text (record { year = r.value; month = p.month; day = p.day; hour = p.hour }))
      outcome = outcome-settled k not_text _ refl

      pub date-refused : Refused not_text ≡ settled_date → Refused not_text ≡ named_date
      date-refused e = sym (goes_on (Some p) is-parts ∙ none-stored k s outcome (sym e))

      pub own-spelling : (packed : Packed) (t : Bool) → Gives (bits_of packed) ≡ settled_date →
          (given (handed k (bits_of packed)) ≡ true → t ≡ same_bytes s (iso k (unpacked (bits_of packed)))) →
          demand t not_text (Gives (bits_of packed)) ≡ named_date
      own-spelling packed t e own = sym (goes_on (Some p) is-parts ∙ some_stored k s (bits_of packed) t own outcome (sym e))
