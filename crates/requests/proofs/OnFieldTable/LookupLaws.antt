-- Lookups: a declared field is decoded in full by its own kind, an undeclared one is guessed, and neither takes the other's answer; what a
-- declaration and a removal change of that, and what they leave. Over the table's format. Assumes nothing.
use mathlib.Core.Path.{◌≡◌, refl, sym, ap, ◌∙◌}
use mathlib.Core.Bool.{Bool, true, false}
use mathlib.Core.List.{List, [], ◌∷◌}
use Prim.Native.Nat.{ℕ, suc, ◌+◌, ◌*◌, ◌≤◌, ◌<◌}
use native.Mathlib.Omega.{arith}
use borrow.Author.Tests.{ne_eqb, lt-ltb, le-leb}
use lib.Dec.{eqb, lit<}
use lib.IntN.{ℤ}
use lib.ListN.{length, replicate, drop, length-append, length-replicate, length-drop}
use Rattle.rules.specs.Refusals.{Answer, Gives, Refused, ◌then◌, demand, given}
use Rattle.rules.specs.Kinds.{Kind, word_of, mark_of, no_mark, guessed_mark, is_guessed}
use Rattle.rules.specs.Numbers.{read_number, guess_number}
use Rattle.rules.specs.Book.{head_size}
use Rattle.rules.proofs.OnKinds.PackLaws.{mark-back}
use Rattle.rules.proofs.OnBook.FrameLaws.{Sensible, demand-met, then-met}
use Rattle.requests.specs.Entries.{same, standing, declare, remove}
use Rattle.requests.specs.FieldTable.{TableFormat, table_frame, bad_entry, key_in, code_in, is_key, declared_kind, game_kind, Declared, declared_by, entry_bytes, entries, declared, removed, declare_buffer, remove_buffer, Looked, looked_mark, looked_date, decode, guess, look_by, game_for, lookup}
use Rattle.requests.proofs.OnEntries.ChangeLaws.{declare-other, remove-other, found_declared, found-removed, declare-remove}
use Rattle.requests.proofs.OnFieldTable.EntryLaws.{first-declares, by-its-code}
use Rattle.requests.proofs.OnFieldTable.HeldLaws.{Holds, found-holds}
use Rattle.requests.proofs.OnFieldTable.AfterLaws.{Told, told, its-key, it-declares, after-declare, Gone, gone, after-remove}

-- #106: what is handed out is marked exactly where it was guessed
pub looked-marked : (l : Looked) → is_guessed (looked_date l) ≡ l.guessed
looked-marked l = by l.guessed
  where
    by : (t : Bool) → eqb (mark_of (word_of (looked_mark t) l.date)) guessed_mark ≡ t
    by true = rw (mark-back guessed_mark l.date (lit< tt))
    by false = rw (mark-back no_mark l.date (lit< tt))

module _ (table : TableFormat) (sensible : Sensible (table_frame table)) where
  abbrev w : ℕ
  w = table.key_size

  abbrev key : List ℕ → ℕ
  key = key_in w

  -- a lookup goes by the entry of its field alone
  by-entry : (s : List ℕ) (rs : List (List ℕ)) (q game : ℕ) (z : ℤ) → entries table s ≡ Gives rs →
      lookup table s q game z ≡ (game_for w q game then λ k. look_by w (standing key q rs) k z)
  unfolding lookup
  by-entry s rs q game z e = rw e

  -- ---- the two users

  -- for the chronicler: a declared field is decoded in full by its kind, whatever the game's guess would say of the number
  module _ (s : List ℕ) (rs : List (List ℕ)) (e : entries table s ≡ Gives rs) (q game : ℕ) (z : ℤ) where
    pub declared-decodes : (r : List ℕ) (rest : List (List ℕ)) (d : Declared) → standing key q rs ≡ r ∷ rest → declared_by w r ≡ Gives d →
        lookup table s q game z ≡ (game_for w q game then λ k. decode z d.kind)
    unfolding look_by
    declared-decodes r rest d at is = by-entry s rs q game z e ∙ rw (at, is)

    -- for the converter: a number that no one declared is the game's guess, and never decoded in full
    pub undeclared-guesses : standing key q rs ≡ [] → lookup table s q game z ≡ (game_for w q game then guess z)
    unfolding look_by
    undeclared-guesses none = by-entry s rs q game z e ∙ rw none

    -- a lookup says which it was, and is right: a date that was not guessed is the full decoding of a kind that the field's entry declares,
    -- and one that was guessed is the game kind's guess of a field that has no entry
    pub data Which (l : Looked) : Type 0 where
      was-declared : (r : List ℕ) (rest : List (List ℕ)) (d : Declared) → standing key q rs ≡ r ∷ rest → declared_by w r ≡ Gives d →
          l.kind ≡ d.kind → l.guessed ≡ false → read_number d.kind z ≡ Gives l.date → Which l
      was-guessed : standing key q rs ≡ [] → game_kind game ≡ Gives l.kind → l.guessed ≡ true → guess_number l.kind z ≡ Gives l.date → Which l

    pub lookup-tells : (l : Looked) → lookup table s q game z ≡ Gives l → Which l
    unfolding game_for look_by
    lookup-tells l h =
        let g = then-met (game_for w q game) (λ k. look_by w (standing key q rs) k z) l (sym (by-entry s rs q game z e) ∙ h) in
        let k = demand-met (is_key w q) bad_entry (game_kind game) g.value g.is in
        inner g.value k.1 (standing key q rs) refl g.next
      where
        inner : (k : Kind) → game_kind game ≡ Gives k → (xs : List (List ℕ)) → standing key q rs ≡ xs → look_by w xs k z ≡ Gives l → Which l
        inner k i [] p n =
            let t = then-met (guess_number k z) _ l n in
            let y : record { kind = k; date = t.value; guessed = true } ≡ l = cc t.next in
            rw (← y) (was-guessed p i refl t.is)
        inner k i (r ∷ rest) p n =
            let d = then-met (declared_by w r) _ l n in
            let t = then-met (read_number d.value.kind z) _ l d.next in
            let y : record { kind = d.value.kind; date = t.value; guessed = false } ≡ l = cc t.next in
            rw (← y) (was-declared r rest d.value p d.is refl refl t.is)

  -- ---- after a declaration

  module _ (s : List ℕ) (q code : ℕ) (rs : List (List ℕ)) (e : declared table s q code ≡ Gives rs) (game : ℕ) (z : ℤ) where
    found-so : standing key q rs ≡ entry_bytes w (told table sensible s q code rs e).d ∷ []
    found-so =
        let t = told table sensible s q code rs e in
        ap (λ (x : List (List ℕ)). standing key q x) (sym t.now)
        ∙ ap (λ (x : ℕ). standing key x (declare key (entry_bytes w t.d) t.was)) (sym (its-key table sensible s q code rs e))
        ∙ found_declared key (entry_bytes w t.d) t.was

    -- the lookup of that field decodes by that kind
    pub looks-declared : lookup table (declare_buffer table s q code) q game z ≡ (game_for w q game then λ k. declared_kind code then decode z)
    looks-declared =
        let t = told table sensible s q code rs e in
        declared-decodes (declare_buffer table s q code) rs (after-declare table sensible s q code rs e) q game z _ _ t.d found-so
        (it-declares table sensible s q code rs e) ∙ rw t.allowed.is-kind

    -- of every other field as before
    pub looks-beside : (other : ℕ) → (other ≡ q → ⊥) → lookup table (declare_buffer table s q code) other game z ≡ lookup table s other game z
    looks-beside other n =
        let t = told table sensible s q code rs e in
        let o = (found-holds table sensible s t.was t.found).order in
        let i = its-key table sensible s q code rs e in
        let kept : standing key other rs ≡ standing key other t.was =
        ap (λ (x : List (List ℕ)). standing key other x) (sym t.now)
        ∙ declare-other key (same other) 0 (entry_bytes w t.d) t.was (ne_eqb _ other (λ x. n (sym x ∙ i))) o in
        by-entry (declare_buffer table s q code) rs other game z (after-declare table sensible s q code rs e) ∙ rw kept (sym (by-entry s t.was other game z t.found))

  -- ---- after a removal

  module _ (s : List ℕ) (q : ℕ) (rs : List (List ℕ)) (e : removed table s q ≡ Gives rs) (game : ℕ) (z : ℤ) where
    -- that field is guessed
    pub looks-removed : lookup table (remove_buffer table s q) q game z ≡ (game_for w q game then guess z)
    looks-removed =
        let t = gone table sensible s q rs e in
        undeclared-guesses (remove_buffer table s q) rs (after-remove table sensible s q rs e) q game z (rw (← t.now) (found-removed key q t.was))

    pub looks-left : (other : ℕ) → (other ≡ q → ⊥) → lookup table (remove_buffer table s q) other game z ≡ lookup table s other game z
    looks-left other n =
        let t = gone table sensible s q rs e in
        let kept : standing key other rs ≡ standing key other t.was =
        ap (λ (x : List (List ℕ)). standing key other x) (sym t.now) ∙ remove-other key (same other) q t.was (ne_eqb q other (λ x. n (sym x))) in
        by-entry (remove_buffer table s q) rs other game z (after-remove table sensible s q rs e) ∙ rw kept (sym (by-entry s t.was other game z t.found))

  -- ---- a new field, declared and removed again: the entries are as they were

  pub declared-removed : (s : List ℕ) (q code : ℕ) (was rs after : List (List ℕ)) → entries table s ≡ Gives was → standing key q was ≡ [] →
      declared table s q code ≡ Gives rs → removed table (declare_buffer table s q code) q ≡ Gives after → after ≡ was
  declared-removed s q code was rs after i none e r =
      let t = told table sensible s q code rs e in
      let g = gone table sensible (declare_buffer table s q code) q after r in
      let same-was : t.was ≡ was = cc (sym t.found ∙ i) in
      let same-rs : g.was ≡ rs = cc (sym g.found ∙ after-declare table sensible s q code rs e) in
      let k = its-key table sensible s q code rs e in
      let o = (found-holds table sensible s t.was t.found).order in
      let n : standing key (key (entry_bytes w t.d)) t.was ≡ [] = rw (k, same-was) none in
      sym g.now ∙ ap (remove key q) (same-rs ∙ sym t.now)
      ∙ ap (λ (x : ℕ). remove key x (declare key (entry_bytes w t.d) t.was)) (sym k)
      ∙ declare-remove key 0 (entry_bytes w t.d) t.was o n ∙ same-was
