-- A whole text, by the steps of each kind's reader: its length, then the date that it names. Assumes nothing.
use mathlib.Core.Path.{◌≡◌, ap}
use mathlib.Core.List.{List}
use Prim.Native.Nat.{ℕ, ◌≤◌, ◌<◌}
use borrow.Author.Tests.{le-leb}
use lib.ListN.{length}
use Rattle.rules.specs.Refusals.{Answer, Refused, too_long}
use Rattle.rules.specs.Kinds.{Kind, Stored, store}
use Rattle.rules.specs.Text.{text_limit}
use Rattle.requests.specs.IsoReader.{named, read_iso}
use Rattle.requests.proofs.OnIsoReader.IsoLaws.{iso-too-long}

module _ (k : Kind) (s : List ℕ) where
  abbrev pub iso_date : Answer Stored
  iso_date = store (read_iso k s)

  pub too_long_lem : text_limit < length s → iso_date ≡ Refused too_long
  too_long_lem h = ap store ((iso-too-long k s).1 h)

  pub iso-read : length s ≤ text_limit → store (named k s) ≡ iso_date
  unfolding read_iso
  iso-read h = rw (le-leb (length s) text_limit h)
