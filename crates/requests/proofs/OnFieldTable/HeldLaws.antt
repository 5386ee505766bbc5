-- What it is to hold a table of some entries, that these are found exactly then, and each way in which the check answers. Over the table's
-- format. Assumes nothing.
use mathlib.Core.Path.{◌≡◌, refl, sym, ap, ◌∙◌}
use mathlib.Core.Bool.{Bool, true, false, ◌&&◌}
use mathlib.Core.List.{List, []}
use Prim.Native.Nat.{ℕ, ◌+◌, ◌*◌, ◌^◌, ◌≤◌, ◌<◌}
use native.Mathlib.Omega.{arith}
use lib.ListN.{length, drop}
use Rattle.rules.specs.Refusals.{Answer, Gives, Refused, RefusedAt, ◌then◌, demand}
use Rattle.rules.specs.Book.{length_size, head_size, length_said, version_of, pieces, length_limit, framed}
use Rattle.rules.proofs.OnKinds.KindLaws.{left, right}
use Rattle.rules.proofs.OnBook.PieceLaws.{piece-count}
use Rattle.rules.proofs.OnBook.FrameLaws.{Sensible, Framed, demand-met, then-met, framed-found, found_framed, count_cut, same-refusal}
use Rattle.requests.specs.Entries.{ascends}
use Rattle.requests.specs.FieldTable.{TableFormat, entry_size, table_frame, bad_entry, key_in, all_declare, in_order, entries, counted, check}

-- the length of a full table fits the bytes that say it; entries always have bytes
pub sensible-table : (table : TableFormat) → length_limit (table_frame table) < 256 ^ length_size → Sensible (table_frame table)
sensible-table table h = record { some = omega arith; fits = h }

-- s starts with a table of the entries rs
pub record Holds (table : TableFormat) (s : List ℕ) (rs : List (List ℕ)) : Type 0 where
  pub framed : Framed (table_frame table) s rs
  pub declare : all_declare table.key_size rs ≡ true
  pub order : ascends (key_in table.key_size) 0 rs ≡ true

module _ (table : TableFormat) (sensible : Sensible (table_frame table)) (s : List ℕ) where
  pub holds-found : (rs : List (List ℕ)) → Holds table s rs → entries table s ≡ Gives rs
  unfolding entries
  holds-found rs h = rw (framed-found (table_frame table) sensible s rs h.framed, h.declare, h.order)

  pub found-holds : (rs : List (List ℕ)) → entries table s ≡ Gives rs → Holds table s rs
  unfolding entries
  found-holds rs e =
      let f = then-met (framed (table_frame table) s) _ rs e in
      let d = demand-met (in_order table.key_size f.value) bad_entry _ rs f.next in
      let z : f.value ≡ rs = cc d.1 in
      let t : in_order table.key_size rs ≡ true = rw z at d.0 in
      record {
        framed = rw z at (found_framed (table_frame table) sensible s f.value f.is);
        declare = left (all_declare table.key_size rs) _ t;
        order = right (all_declare table.key_size rs) _ t;
      }

  -- ---- each way in which the check answers

  abbrev cut : ℕ → List (List ℕ)
  cut n = pieces n (entry_size table) (drop head_size s)

  module _ (n : ℕ) (e : (framed (table_frame table) s then λ rs. Gives (length rs)) ≡ Gives n) where
    pub in_order_lem : true ≡ in_order table.key_size (cut n) → check table s ≡ Gives n
    unfolding entries counted
    in_order_lem t = rw (count_cut (table_frame table) sensible s n e, ← t) (ap Gives (piece-count n (entry_size table) (drop head_size s)))

    pub out_of_order : false ≡ in_order table.key_size (cut n) → check table s ≡ Refused bad_entry
    unfolding entries counted
    out_of_order t = rw (count_cut (table_frame table) sensible s n e, ← t)

  pub frame_refused : (n : ℕ) → (framed (table_frame table) s then λ rs. Gives (length rs)) ≡ Refused n → check table s ≡ Refused n
  unfolding entries counted
  frame_refused n e = rw (same-refusal (framed (table_frame table) s) length n e)

  -- ---- what a count tells

  module _ (n : ℕ) (e : check table s ≡ Gives n) where
    step-rs : List (List ℕ)
    unfolding counted
    step-rs = (then-met (entries table s) (λ rs. Gives (length rs)) n e).value

    step_is : entries table s ≡ Gives step-rs
    unfolding step-rs
    step_is = (then-met (entries table s) (λ rs. Gives (length rs)) n e).is

    many : length step-rs ≡ n
    unfolding step-rs
    many = cc (then-met (entries table s) (λ rs. Gives (length rs)) n e).next

    are : step-rs ≡ cut n
    are = sym (rw many at (found-holds step-rs step_is).framed.cut)

    -- the entries are the n pieces after the head
    pub check-entries : entries table s ≡ Gives (cut n)
    check-entries = step_is ∙ ap Gives are

    pub check-holds : Holds table s (cut n)
    check-holds = found-holds (cut n) check-entries

    pub check-fits : head_size + n * entry_size table ≤ length s
    check-fits = rw many at (found-holds step-rs step_is).framed.fits

    pub check-most : n ≤ table.most
    check-most = rw many at (found-holds step-rs step_is).framed.most

    pub check-says : length_said s ≡ 1 + n * entry_size table
    check-says = rw many at (found-holds step-rs step_is).framed.says
