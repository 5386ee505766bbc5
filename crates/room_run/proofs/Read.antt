-- A row that is no remark, by what was read behind its word, and by each word in turn. Assumes nothing.
use mathlib.Core.Path.{◌≡◌}
use mathlib.Core.Bool.{false}
use mathlib.Core.List.{List}
use Prim.Native.Nat.{ℕ, ◌+◌}
use lib.Dec.{eqb}
use lib.ListN.{length, drop}
use lib.Seq.{drop-drop}
use Rattle.spans.specs.Bytes.{index_of, slice}
use Rattle.rules.specs.Words.{byte}
use Rattle.rules.specs.Text.{Read}
use Rattle.rules.proofs.Shared.Rests.{to_end}
use Rattle.rows.specs.Rows.{Number, first_byte, after_byte, natural_of}
use Rattle.script.specs.Naturals.{natural_up_to}
use Rattle.room_run.specs.Lines.{line_of, words_of, after_text}

-- the place where a text ends, which the row does too
pub text-ends : (s : List ℕ) (end : ℕ) → end ≡ 5 + index_of 10 (slice 5 (length s) s) → drop end s ≡ after_text (drop 5 s)
text-ends s end e = rw (e, to_end s 5, drop-drop (index_of 10 (drop 5 s)) 5 s)

pub read_by : (s : List ℕ) (n : Number) (b : Read ℕ) (at : ℕ) → eqb (first_byte s) (byte "#") ≡ false → n ≡ natural_of (drop 5 s)
    → drop at s ≡ after_byte (byte " ") n.rest → b ≡ natural_up_to 255 (drop at s) → words_of s (drop 5 s) n b ≡ line_of s
unfolding line_of
read_by s n b at e p q r = rw (e, ← p, ← q, ← r)
