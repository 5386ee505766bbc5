-- A call that takes both versions is the version 2 call where the version byte is 2, else the version 1 call; and what a call of one version
-- answers at another version's bytes. Assumes nothing.
use mathlib.Core.Path.{◌≡◌, refl, sym, ap, ◌∙◌}
use mathlib.Core.Bool.{Bool, true, false, cond}
use mathlib.Core.List.{List}
use Prim.Native.Nat.{ℕ, ◌+◌, ◌*◌, ◌≤◌, ◌<◌}
use native.Mathlib.Omega.{arith}
use borrow.Author.Tests.{eq-eqb, ne_eqb}
use lib.Dec.{eqb}
use lib.ListN.{length}
use Rattle.rules.specs.Refusals.{Answer, Gives, Refused, RefusedAt, ◌then◌, demand, given, bad_length, bad_version, bad_record, guessed_date}
use Rattle.rules.specs.Book.{Frame, Format, sound_by, length_size, head_size, length_said, length_limit, version_of, framed, all_pass, records, check, record_at, entry_at, place_after, taken_by, append_answer, append_buffer, version1}
use Rattle.rules.proofs.OnBook.FrameLaws.{Framed, version-not, over}
use Rattle.rules.proofs.OnBook.BookLaws.{Holds, check-by}
use Rattle.requests.specs.Second.{FieldEntry, version2}
use Rattle.requests.specs.Both.{fieldless, retold, retold_by, version1_told, format_by, both}

-- ---- answers told otherwise

pub given-retold : {A B : Type 0} (f : A → B) (x : Answer A) → given (retold f x) ≡ given x
given-retold f (Gives a) = refl
given-retold f (Refused n) = refl
given-retold f (RefusedAt n place) = refl

retold-then : {A B C : Type 0} (x : Answer A) (next : A → Answer B) (f : B → C) → (x then λ a. retold f (next a)) ≡ retold f (x then next)
retold-then (Gives a) next f = refl
retold-then (Refused n) next f = refl
retold-then (RefusedAt n place) next f = refl

-- ---- a format that is told otherwise answers the same, but for its entries

module _ {A B : Type 0} (f : A → B) (format : Format A) where
  same-sound : sound_by (retold_by f format) ≡ sound_by format
  same-sound = λ i r. given-retold f (format.entry r) i

  same-records : (s : List ℕ) → records (retold_by f format) s ≡ records format s
  unfolding records
  same-records s = ap (λ (test : List ℕ → Bool). framed format.frame s then all_pass bad_record test) same-sound

  pub same_check : (s : List ℕ) → check (retold_by f format) s ≡ check format s
  unfolding check
  same_check s = rw (same-records s)

  pub same-append : (x : Answer (List ℕ)) (s : List ℕ) → append_answer (retold_by f format) x s ≡ append_answer format x s
  unfolding append_answer
  same-append (Gives r) s =
      ap (λ (x : Answer ℕ). x then place_after format.frame s then taken_by (retold_by f format) r) (same_check s)
      ∙ ap (λ (t : Bool). check format s then place_after format.frame s then λ n. demand t guessed_date (Gives n)) (given-retold f (format.entry r))
  same-append (Refused n) s = refl
  same-append (RefusedAt n place) s = refl

  pub same-buffer : (x : Answer (List ℕ)) (s : List ℕ) → append_buffer (retold_by f format) x s ≡ append_buffer format x s
  unfolding append_buffer
  same-buffer (Gives r) s = rw (same-append (Gives r) s)
  same-buffer (Refused n) s = refl
  same-buffer (RefusedAt n place) s = refl

  pub retold-entry : (s : List ℕ) (i : ℕ) → entry_at (retold_by f format) s i ≡ retold f (entry_at format s i)
  unfolding entry_at record_at
  retold-entry s i = rw (same-records s) (retold-then (record_at format s i) format.entry f)

-- ---- both versions: "the version 2 call where the version byte is 2, else the version 1 call"

module _ (s : List ℕ) where
  -- every operation is that of version 2
  pub both-two : version_of s ≡ version2.frame.version → both s ≡ version2
  unfolding format_by
  both-two e = rw (eq-eqb (version_of s) version2.frame.version e)

  module _ (e : version_of s ≡ version2.frame.version → ⊥) where
    pub both-other : both s ≡ version1_told
    unfolding format_by
    both-other = rw (ne_eqb (version_of s) version2.frame.version e)

    pub check-other : check (both s) s ≡ check version1 s
    check-other = ap (λ (format : Format FieldEntry). check format s) both-other ∙ same_check fieldless version1 s

    pub entry_other : (i : ℕ) → entry_at (both s) s i ≡ retold fieldless (entry_at version1 s i)
    entry_other i = ap (λ (format : Format FieldEntry). entry_at format s i) both-other ∙ retold-entry fieldless version1 s i

-- ---- another version's bytes: 10, or 9 where the length is over the limit of the version that was asked for

module _ {A : Type 0} (format : Format A) (s : List ℕ) (head : head_size ≤ length s) (some : 1 ≤ length_said s) where
  pub over-limit : length_limit format.frame < length_said s → check format s ≡ Refused bad_length
  over-limit h = check-by format s (over format.frame s refl head some h)

  pub other-version : length_said s ≤ length_limit format.frame → length_said s + length_size ≤ length s → (version_of s ≡ format.frame.version → ⊥) → check format s ≡ Refused bad_version
  other-version h g v = check-by format s (version-not format.frame s refl head some h g v)

-- "A version 1 reader still answers 10, or 9 where the length is over 20,481": of every book of version 2
module _ (s : List ℕ) (rs : List (List ℕ)) (h : Holds version2 s rs) where
  pub version1-reader : length_said s ≤ 20481 → check version1 s ≡ Refused bad_version
  version1-reader l =
      let f = h.frame.fits in let g = h.frame.says in let v = h.frame.version in
      other-version version1 s (omega arith) (omega arith) l (omega arith) (λ e. absurd (omega arith))

  pub version1-reader-over : 20481 < length_said s → check version1 s ≡ Refused bad_length
  version1-reader-over l = let f = h.frame.fits in over-limit version1 s (omega arith) (omega arith) l
