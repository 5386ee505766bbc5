-- What is written of a buffer: a byte more, and by its length. Assumes nothing.
use Rattle.std.proofs.Common.{◌≡◌, ℕ, ◌+◌, ◌%◌, ◌<◌, ◌≤◌, List, [], ◌++◌, length, take, get_or, flat_map, Option, Result, Ok, Err, OnOk, ap, ◌∙◌, sym}
use Rattle.std.proofs.lemmas.List.{flat_map_more}
use native.Mathlib.Numerals.{add-one}
use lib.Seq.{take-suc}
use Rattle.std.proofs.KnownBytes.{Appends-trans}
use Rattle.std.specs.Io.KnownBytes.{Appends}
use borrow.Author.Tests.{le-leb, lt-leb}
use Rattle.std.specs.Fmt.{decimal}
use Rattle.rules.specs.Words.{bytes}
use Rattle.script.specs.Weighing.{weights_from}
use Rattle.script.specs.Telling.{two_digits, shown_text}

pub two_more : (s : List ℕ) (i : ℕ) → i < length s → flat_map two_digits (take i s) ++ two_digits (get_or s i 0) ≡ flat_map two_digits (take (i + 1) s)
two_more s i h = rw (add-one i) (flat_map_more two_digits [] (take i s) (get_or s i 0) ∙ ap (flat_map two_digits) (sym (take-suc s i 0 h)))

pub shown_short : (s : List ℕ) → length s ≤ 40 → flat_map two_digits s ≡ shown_text s
unfolding shown_text
shown_short s h = rw (le-leb (length s) 40 h)

pub shown_long : (s : List ℕ) (sum : ℕ) → 40 < length s → sum ≡ weights_from 1 s % 4294967296 → decimal (length s) ++ (bytes " bytes, sum " ++ decimal sum) ≡ shown_text s
unfolding shown_text
shown_long s sum h e = rw (lt-leb (length s) 40 h, e)

-- written one after the other
pub joined : {T E : Type 0} (r : Result T E) (a b c : Option (List ℕ)) (xs ys : List ℕ) → Appends a b xs → OnOk r (Appends b c ys) → OnOk r (Appends a c (xs ++ ys))
joined (Ok x) a b c xs ys p q = Appends-trans a b c xs ys p q
joined (Err e) a b c xs ys p q = tt
