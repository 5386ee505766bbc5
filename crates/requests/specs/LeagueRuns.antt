-- Document 02, #109: runs of calls of both leagues on one table, what one league is answered in a run, and its own calls alone. Assumes
-- nothing.
use Rattle.std.specs.Prelude.{ℕ, List, [], ◌∷◌, eqb, ℤ}
use Rattle.rules.specs.Refusals.{Answer}
use Rattle.requests.specs.Entries.{kept_if}
use Rattle.requests.specs.FieldTable.{Declared, counted, Looked}
use Rattle.requests.specs.Leagues.{own_of, own_entries, own_entry_at, own_declaration, own_declare_buffer, own_removal, own_remove_buffer, own_lookup}

-- a league's calls: the check, the entry at a place, a field and its code declared, a field removed, a number looked up by a field and a
-- game kind
pub data Call : Type 0 where
  checks : Call
  shows : ℕ → Call
  declares : ℕ → ℕ → Call
  removes : ℕ → Call
  looks_up : ℕ → ℕ → ℤ → Call

-- what it is answered, refusals among it
pub data Reply : Type 0 where
  counts : Answer ℕ → Reply
  shown : Answer Declared → Reply
  looked : Answer Looked → Reply

-- of a buffer's table
unfoldable pub reply : ℕ → Call → List ℕ → Reply
reply league checks s = counts (counted (own_entries s league))
reply league (shows place) s = shown (own_entry_at s league place)
reply league (declares field code) s = counts (counted (own_of league (own_declaration s league field code)))
reply league (removes field) s = counts (counted (own_of league (own_removal s league field)))
reply league (looks_up field game z) s = looked (own_lookup s league field game z)

-- the buffer then
unfoldable pub after : ℕ → Call → List ℕ → List ℕ
after league checks s = s
after league (shows place) s = s
after league (declares field code) s = own_declare_buffer s league field code
after league (removes field) s = own_remove_buffer s league field
after league (looks_up field game z) s = s

-- ---- a run: whose turn it is, and the call

pub record Turn : Type 0 where
  pub league : ℕ
  pub call : Call

unfoldable pub after_all : List Turn → List ℕ → List ℕ
after_all [] s = s
after_all (t ∷ ts) s = after_all ts (after t.league t.call s)

-- what one league is answered
unfoldable pub replies : ℕ → List Turn → List ℕ → List Reply
replies league [] s = []
replies league (t ∷ ts) s = kept_if (eqb t.league league) (reply league t.call s) (replies league ts (after t.league t.call s))

-- its own turns alone
unfoldable pub own_turns : ℕ → List Turn → List Turn
own_turns league [] = []
own_turns league (t ∷ ts) = kept_if (eqb t.league league) t (own_turns league ts)
