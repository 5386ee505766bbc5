-- A whole text, by the steps of each kind's reader: its length, its shape, its leading number, the rest. Assumes nothing.
use mathlib.Core.Path.{◌≡◌, sym, ap, ◌∙◌}
use mathlib.Core.Bool.{true, false}
use mathlib.Core.List.{List, [], ◌∷◌}
use Prim.Native.Nat.{ℕ, ◌≤◌, ◌<◌}
use borrow.Author.Tests.{le-leb}
use lib.IntN.{ℤ, nat_abs}
use lib.ListN.{length, drop}
use Rattle.std.specs.Prelude.{Option, Some, None}
use Rattle.rules.specs.Refusals.{Answer, Refused, ◌then◌, too_long, not_text}
use Rattle.rules.specs.Kinds.{Kind, Stored, store}
use Rattle.rules.specs.Text.{Read, shape_allowed, leading, text_limit, read_text}
use Rattle.rules.proofs.OnText.LeadingLaws.{after_leading, dotted-out, number-out, text-long, by-leading}
use Rattle.scalar.specs.Number.{most63, leading_number}
use Rattle.scalar.specs.Views.{leading_as}
use Rattle.scalar.specs.declared.Leading.{Leading}
use Rattle.reading.proofs.Leads.{no-year, no_number, led-none, led-some}

-- ---- what follows the leading number

-- a leading number of more than 63 bits is no year and no number text
rest_out : (k : Kind) (r : Read ℤ) → most63 < nat_abs r.value → after_leading k r ≡ Refused not_text
rest_out k r h = split r.rest
  where
    split : (rest : List ℕ) → after_leading k (record { value = r.value; rest = rest }) ≡ Refused not_text
    split [] = number-out k r.value (no_number r.value h)
    split (b ∷ s) = dotted-out k r.value b s (no-year r.value h)

-- ---- the whole text

module _ (k : Kind) (s : List ℕ) where
  abbrev pub text_date : Answer Stored
  text_date = store (read_text k s)

  pub too_long_lem : text_limit < length s → text_date ≡ Refused too_long
  too_long_lem h = ap store (text-long k s h)

  module _ (fits : length s ≤ text_limit) where
    pub shape-refused : shape_allowed k s ≡ false → text_date ≡ Refused not_text
    unfolding read_text
    shape-refused e = rw (le-leb (length s) text_limit fits, e)

    module _ (shape : shape_allowed k s ≡ true) where
      reads : text_date ≡ store (leading s then after_leading k)
      reads = ap store (by-leading k s fits shape)

      -- what the code answers, from what its two calls ensure
      module _ {lead : Option Leading} (is-led : leading_as s lead ≡ leading_number s) where
        pub lead-refused : lead ≡ None → Refused not_text ≡ text_date
        lead-refused e = sym (reads ∙ ap store (led-none (after_leading k) (rest_out k) s is-led e))

        pub rest_read : {r : Leading} → lead ≡ Some r → store (after_leading k (record { value = r.value; rest = drop r.next s })) ≡ text_date
        rest_read e = sym (reads ∙ ap store (led-some (after_leading k) (rest_out k) s is-led e))
