-- "that room is used again": a declaration after a removal is never 15. Over the table's format. Assumes nothing.
use mathlib.Core.Path.{◌≡◌, refl, sym, ap, ◌∙◌}
use mathlib.Core.Bool.{Bool, true, or-true}
use mathlib.Core.List.{List, [], ◌∷◌, ◌++◌}
use Prim.Native.Nat.{ℕ, suc, ◌+◌, ◌*◌, ◌≤◌, ◌<◌}
use native.Mathlib.Nat.{mul-le-mul_right}
use native.Mathlib.Omega.{arith}
use borrow.Author.Tests.{lt-ltb, le-leb}
use lib.ListN.{length, drop, replicate, length-append, length-replicate, length-drop}
use Rattle.rules.specs.Refusals.{Gives}
use Rattle.rules.specs.Book.{head_size}
use Rattle.rules.proofs.OnBook.FrameLaws.{Sensible}
use Rattle.requests.specs.Entries.{some, standing, declare, remove}
use Rattle.requests.specs.Laid.{laid}
use Rattle.requests.specs.FieldTable.{TableFormat, entry_size, table_frame, key_in, has_room, declare_in, removed, table_buffer, remove_buffer}
use Rattle.requests.proofs.OnEntries.EachLaws.{Each, each-kept}
use Rattle.requests.proofs.OnEntries.ChangeLaws.{remove-count}
use Rattle.requests.proofs.OnLaid.LaidLaws.{Long, laid-long}
use Rattle.requests.proofs.OnFieldTable.HeldLaws.{Holds, found-holds}
use Rattle.requests.proofs.OnFieldTable.AfterLaws.{each_long, Gone, gone}

module _ (table : TableFormat) (sensible : Sensible (table_frame table)) (s : List ℕ) (q : ℕ) (rs : List (List ℕ)) (e : removed table s q ≡ Gives rs) where
  abbrev k : ℕ
  k = entry_size table

  abbrev t : Gone table sensible s q rs
  t = gone table sensible s q rs e

  held : Holds table s t.was
  held = found-holds table sensible s t.was t.found

  some-count : (xs : List (List ℕ)) → some xs ≡ true → 1 ≤ length xs
  some-count [] h = let z : ◌≡◌ {A = ℕ} 0 1 = cc (ap (λ (b : Bool). b) h) in absurd (omega arith)
  some-count (x ∷ xs) h = omega arith

  -- there was one entry more at least
  fewer : suc (length rs) ≤ length t.was
  fewer =
      let c = remove-count (key_in table.key_size) 0 t.was held.order q in
      let m = some-count (standing (key_in table.key_size) q t.was) t.stood in
      let n : length (remove (key_in table.key_size) q t.was) ≡ length rs = ap length t.now in
      omega arith

  long : length (remove_buffer table s q) ≡ length s
  unfolding table_buffer remove
  long =
      let l : length (laid (table_frame table) rs) ≡ head_size + length rs * k =
      ap (λ (x : List (List ℕ)). length (laid (table_frame table) x)) (sym t.now)
      ∙ laid-long (table_frame table) (remove (key_in table.key_size) q t.was) (each-kept (Long k) (key_in table.key_size) _ t.was (each_long table sensible s t.was held))
      ∙ ap (λ (x : List (List ℕ)). head_size + length x * k) t.now in
      let f = held.framed.fits in
      let m : suc (length rs) * k ≤ length t.was * k = mul-le-mul_right k fewer in
      rw (e, length-append, length-append, length-replicate, length-drop) (omega arith)

  pub room-again : has_room table rs (remove_buffer table s q) ≡ true
  room-again =
      let f = held.framed.fits in let m = held.framed.most in let n = fewer in
      let p : suc (length rs) * k ≤ length t.was * k = mul-le-mul_right k fewer in
      rw (long, lt-ltb (length rs) table.most (omega arith), le-leb (head_size + suc (length rs) * k) (length s) (omega arith))

  -- so whatever entry is declared, it is taken
  pub never-full : (r : List ℕ) → declare_in table (remove_buffer table s q) rs r ≡ Gives (declare (key_in table.key_size) r rs)
  unfolding declare_in
  never-full r = rw (room-again, or-true)
