-- What an entry declares, from its bytes, and a number looked up by where its key was found. Over the bytes of a key. Assumes nothing.
use mathlib.Core.Path.{◌≡◌, sym, ap, ◌∙◌}
use mathlib.Core.Bool.{true}
use mathlib.Core.List.{List, []}
use Prim.Native.Nat.{ℕ, zero, suc, ◌+◌, ◌*◌, ◌^◌, ◌≤◌, ◌<◌}
use native.Mathlib.Omega.{arith}
use lib.IntN.{ℤ}
use lib.ListN.{get_or, take, drop}
use Rattle.std.specs.Prelude.{Ok, Err}
use Rattle.rules.specs.Refusals.{Gives, Refused, ◌then◌, given}
use Rattle.rules.specs.Kinds.{Kind}
use Rattle.rules.specs.Book.{head_size}
use Rattle.rules.proofs.OnKinds.KindLaws.{left, right}
use Rattle.requests.specs.Entries.{ascends, standing}
use Rattle.requests.specs.FieldTable.{bad_entry, key_in, declared_kind, declared_by, all_declare, in_order, decode, guess, look_by}
use Rattle.requests.proofs.OnFieldTable.EntryLaws.{declared-here, declared-none, by-its-code, first-declares}
use Rattle.field_table.specs.Search.{entries_in, find_of}
use Rattle.field_table.proofs.Orders.{code_here}
use Rattle.field_table.proofs.Finds.{at_piece, absent-tells}

-- a key of the widest fits 32 bits
pub key_fits : (key_size key : ℕ) → key_size ≤ 4 → key < 256 ^ key_size → key < 4294967296
key_fits zero key h l = omega arith
key_fits (suc zero) key h l = omega arith
key_fits (suc (suc zero)) key h l = omega arith
key_fits (suc (suc (suc zero))) key h l = omega arith
key_fits (suc (suc (suc (suc zero)))) key h l = omega arith
key_fits (suc (suc (suc (suc (suc i))))) key h l = absurd (omega arith)

-- ---- the entry that starts at `at`

module _ (key_size : ℕ) (s : List ℕ) (at : ℕ) where
  abbrev piece : List ℕ
  piece = take (key_size + 1) (drop at s)

  pub entry_here : {k : Kind} → given (declared_by key_size piece) ≡ true → Gives k ≡ declared_kind (get_or s (at + key_size) 0) →
      declared_by key_size piece ≡ Gives (record { key = key_in key_size piece; kind = k })
  entry_here {k} d e = declared-here key_size piece k d (ap declared_kind (code_here s at key_size) ∙ sym e)

  pub entry-none : Refused bad_entry ≡ declared_kind (get_or s (at + key_size) 0) → declared_by key_size piece ≡ Refused bad_entry
  entry-none e = declared-none key_size piece (ap declared_kind (code_here s at key_size) ∙ sym e)

-- ---- n entries in order

module _ (key_size n : ℕ) (s : List ℕ) (order : in_order key_size (entries_in key_size n s) ≡ true) where
  abbrev es : List (List ℕ)
  es = entries_in key_size n s

  pub all : all_declare key_size es ≡ true
  all = left (all_declare key_size es) _ order

  pub ascending : ascends (key_in key_size) 0 es ≡ true
  ascending = right (all_declare key_size es) _ order

  module _ (q i : ℕ) (game : Kind) (z : ℤ) where
    pub looks-guess : Err i ≡ find_of key_size q es → look_by key_size (standing (key_in key_size) q es) game z ≡ guess z game
    unfolding look_by
    looks-guess f = rw (absent-tells key_size n s q i ascending f).none

    pub looks-decode : Ok i ≡ find_of key_size q es →
        look_by key_size (standing (key_in key_size) q es) game z ≡ (declared_kind (get_or s (head_size + i * (key_size + 1) + key_size) 0) then decode z)
    unfolding look_by
    looks-decode f =
        let r = take (key_size + 1) (drop (head_size + i * (key_size + 1)) s) in
        let at = at_piece key_size n s q i ascending f in
        let d = first-declares key_size (key_in key_size) _ es r [] all at in
        rw at (by-its-code key_size r (decode z) d) ∙ ap (λ (x : ℕ). declared_kind x then decode z) (code_here s (head_size + i * (key_size + 1)) key_size)
