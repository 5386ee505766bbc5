-- What a declaration or a removal that is not refused tells, and that it leaves a table of the entries that it makes. Over the table's
-- format. Assumes nothing.
use mathlib.Core.Path.{◌≡◌, refl, sym, ap, ◌∙◌}
use mathlib.Core.Bool.{Bool, true, false, ◌||◌}
use mathlib.Core.List.{List, [], ◌∷◌, ◌++◌}
use Prim.Native.Nat.{ℕ, suc, ◌+◌, ◌*◌, ◌≤◌, ◌<◌}
use native.Mathlib.Omega.{arith}
use borrow.Author.Tests.{ltb-true}
use lib.Dec.{leb, ltb}
use lib.ListN.{length, drop, length-drop}
use Rattle.rules.specs.Refusals.{Answer, Gives, Refused, ◌then◌, demand, given}
use Rattle.rules.specs.Numbers.{reads_numbers}
use Rattle.rules.specs.Book.{head_size, new_buffer}
use Rattle.rules.proofs.OnKinds.KindLaws.{left, low}
use Rattle.rules.proofs.OnBook.FrameLaws.{Sensible, Framed, demand-met, then-met}
use Rattle.rules.proofs.OnBook.AppendLaws.{new-framed}
use Rattle.requests.specs.Entries.{some, ascends, standing, declare, remove}
use Rattle.requests.specs.Laid.{laid}
use Rattle.requests.specs.FieldTable.{TableFormat, entry_size, table_frame, bad_entry, table_full, not_there, key_in, is_key, declared_kind, Declared, declaring, declared_by, entry_bytes, entry_for, all_declare, entries, has_room, declare_in, remove_in, declared, removed, table_buffer, declare_buffer, remove_buffer}
use Rattle.requests.proofs.OnEntries.EachLaws.{Each, each-kept, each-declared}
use Rattle.requests.proofs.OnEntries.OrderLaws.{once}
use Rattle.requests.proofs.OnEntries.ChangeLaws.{declare-ascends, remove-ascends, declare-count, remove-count}
use Rattle.requests.proofs.OnLaid.LaidLaws.{Long, pieces-long, laid-framed}
use Rattle.requests.proofs.OnFieldTable.EntryLaws.{kind-allowed, Allowed, declaring-tells, bytes-long, key_back, bytes_back, all-kept, all-declared}
use Rattle.requests.proofs.OnFieldTable.HeldLaws.{Holds, holds-found, found-holds}

module _ (table : TableFormat) (sensible : Sensible (table_frame table)) where
  abbrev w : ℕ
  w = table.key_size

  abbrev key : List ℕ → ℕ
  key = key_in w

  -- each entry of a table has an entry's bytes
  pub each_long : (s : List ℕ) (rs : List (List ℕ)) → Holds table s rs → Each (Long (entry_size table)) rs
  each_long s rs h =
      let f = h.framed.fits in
      rw h.framed.cut at (pieces-long (length rs) (entry_size table) (drop head_size s) (rw length-drop (omega arith)))

  -- entries laid out are a table of them
  pub laid-entries : (rs : List (List ℕ)) (y : List ℕ) → Each (Long (entry_size table)) rs → length rs ≤ table.most → all_declare w rs ≡ true → ascends key 0 rs ≡ true →
      entries table (laid (table_frame table) rs ++ y) ≡ Gives rs
  laid-entries rs y l m a o =
      holds-found table sensible _ rs (record { framed = laid-framed (table_frame table) sensible rs y m l; declare = a; order = o })

  -- an empty table
  pub after-new : (s : List ℕ) → head_size ≤ length s → entries table (new_buffer table.version s) ≡ Gives []
  unfolding entries all_declare ascends
  after-new s h = rw (new-framed (table_frame table) sensible s h)

  -- ---- after a declaration

  -- there was a table of the entries `was`, and the call names d
  pub record Told (s : List ℕ) (q code : ℕ) (rs : List (List ℕ)) : Type 0 where
    pub was : List (List ℕ)
    pub found : entries table s ≡ Gives was
    pub d : Declared
    pub allowed : Allowed w q code d
    pub fits : (some (standing key (key (entry_bytes w d)) was) || has_room table was s) ≡ true
    pub now : declare key (entry_bytes w d) was ≡ rs

  pub declared-tells : (s : List ℕ) (q code : ℕ) (rs : List (List ℕ)) → declared table s q code ≡ Gives rs → Told s q code rs
  unfolding declared entry_for declare_in
  declared-tells s q code rs e =
      let g = then-met (entries table s) _ rs e in
      let f = then-met (entry_for w q code) (declare_in table s g.value) rs g.next in
      let n = then-met (declaring w q code) _ f.value f.is in
      let z : entry_bytes w n.value ≡ f.value = cc n.next in
      let m : declare_in table s g.value (entry_bytes w n.value) ≡ Gives rs = rw z f.next in
      let t = demand-met (some (standing key (key (entry_bytes w n.value)) g.value) || has_room table g.value s) table_full _ rs m in
      record { was = g.value; found = g.is; d = n.value; allowed = declaring-tells w q code n.value n.is; fits = t.0; now = cc t.1 }

  module _ (s : List ℕ) (q code : ℕ) (rs : List (List ℕ)) (e : declared table s q code ≡ Gives rs) where
    pub told : Told s q code rs
    told = declared-tells s q code rs e

    is-key : is_key w told.d.key ≡ true
    is-key = rw told.allowed.same told.allowed.is-key

    -- its key is the call's
    pub its-key : key (entry_bytes w told.d) ≡ q
    its-key = key_back w told.d is-key ∙ told.allowed.same

    pub it-declares : declared_by w (entry_bytes w told.d) ≡ Gives told.d
    it-declares = bytes_back w told.d is-key (kind-allowed reads_numbers code told.d.kind told.allowed.is-kind)

    held : Holds table s told.was
    held = found-holds table sensible s told.was told.found

    few : length (declare key (entry_bytes w told.d) told.was) ≤ table.most
    few = inner (standing key (key (entry_bytes w told.d)) told.was) refl told.fits
      where
        count : length (declare key (entry_bytes w told.d) told.was) + length (standing key (key (entry_bytes w told.d)) told.was) ≡ length told.was + 1
        count = declare-count key 0 told.was held.order (entry_bytes w told.d)

        inner : (xs : List (List ℕ)) → standing key (key (entry_bytes w told.d)) told.was ≡ xs → (some xs || has_room table told.was s) ≡ true →
            length (declare key (entry_bytes w told.d) told.was) ≤ table.most
        inner [] p h =
            let m = ltb-true (length told.was) table.most (left (ltb (length told.was) table.most) _ h) in
            let c = rw p at count in omega arith
        inner (x ∷ xs) p h =
            let o = once key (key (entry_bytes w told.d)) 0 told.was held.order x xs p in
            let c = rw o at count in let m = held.framed.most in omega arith

    -- "every operation that is not refused leaves a table that checks": the entries that it made
    pub after-declare : entries table (declare_buffer table s q code) ≡ Gives rs
    unfolding table_buffer
    after-declare =
        let k : 0 < key (entry_bytes w told.d) = rw (key_back w told.d is-key) (low 1 _ told.d.key is-key) in
        rw (e, ← told.now)
        (laid-entries (declare key (entry_bytes w told.d) told.was) _
        (each-declared (Long (entry_size table)) key (entry_bytes w told.d) told.was (bytes-long w told.d) (each_long s told.was held)) few
        (all-declared w key (entry_bytes w told.d) told.was (ap given it-declares) held.declare)
        (declare-ascends key 0 (entry_bytes w told.d) told.was k held.order))

  -- ---- after a removal

  pub record Gone (s : List ℕ) (q : ℕ) (rs : List (List ℕ)) : Type 0 where
    pub was : List (List ℕ)
    pub found : entries table s ≡ Gives was
    pub is-key : is_key w q ≡ true
    pub stood : some (standing key q was) ≡ true
    pub now : remove key q was ≡ rs

  pub removed-tells : (s : List ℕ) (q : ℕ) (rs : List (List ℕ)) → removed table s q ≡ Gives rs → Gone s q rs
  unfolding removed remove_in
  removed-tells s q rs e =
      let g = then-met (entries table s) _ rs e in
      let d = demand-met (is_key w q) bad_entry (remove_in w q g.value) rs g.next in
      let t = demand-met (some (standing key q g.value)) not_there _ rs d.1 in
      record { was = g.value; found = g.is; is-key = d.0; stood = t.0; now = cc t.1 }

  module _ (s : List ℕ) (q : ℕ) (rs : List (List ℕ)) (e : removed table s q ≡ Gives rs) where
    pub gone : Gone s q rs
    gone = removed-tells s q rs e

    pub after-remove : entries table (remove_buffer table s q) ≡ Gives rs
    unfolding table_buffer remove
    after-remove =
        let h = found-holds table sensible s gone.was gone.found in
        let c = remove-count key 0 gone.was h.order q in
        let m = h.framed.most in
        rw (e, ← gone.now)
        (laid-entries (remove key q gone.was) _ (each-kept (Long (entry_size table)) key _ gone.was (each_long s gone.was h)) (omega arith)
        (all-kept w key _ gone.was h.declare) (remove-ascends key 0 q gone.was h.order))
