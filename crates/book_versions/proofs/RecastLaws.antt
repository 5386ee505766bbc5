-- A record written as one of another size, and a book of such records: as the code stores them, they are what `recast` and `lay_buffer` say.
-- Over both sizes. Assumes nothing.
use mathlib.Core.Path.{◌≡◌, refl, sym, ap, ◌∙◌}
use mathlib.Core.List.{List, [], ◌∷◌}
use Prim.Native.Nat.{ℕ, zero, suc, ◌+◌, ◌*◌, ◌-◌, ◌≤◌, ◌<◌}
use native.Mathlib.Omega.{arith}
use borrow.Author.Tests.{le-leb, lt-leb}
use lib.ListN.{length, get_or, take, drop, set, length-set, length-append, length-drop, length-replicate}
use lib.Seq.{sets, sets-eq, paste, take-length, length-take-le, drop-drop}
use Rattle.rules.specs.Words.{big_bytes}
use Rattle.rules.specs.Refusals.{Gives, Refused, no_room}
use Rattle.rules.specs.Book.{length_size, head_size, pieces}
use Rattle.rules.proofs.Shared.Rests.{here}
use Rattle.requests.specs.Laid.{joined}
use Rattle.requests.proofs.OnLaid.LaidLaws.{Long}
use Rattle.requests.proofs.OnLaid.StoreLaws as S
use Rattle.frame.specs.Views.{frame_of}
use Rattle.book.specs.Views.{date_size, least_size}
use Rattle.book_versions.specs.Recast.{zeros, recast, recast_all, room_of, lay_answer, lay_buffer}

pub zeros-long : (n : ℕ) → length (zeros n) ≡ n
zeros-long n = length-replicate n 0

zeros-set : (t : List ℕ) (at n : ℕ) → at + n ≤ length t → paste t at (zeros n) n ≡ sets t at (zeros n)
zeros-set t at n h =
    let l = zeros-long n in
    let whole : take n (zeros n) ≡ zeros n = ap (λ (m : ℕ). take m (zeros n)) (sym l) ∙ take-length (zeros n) in
    rw whole (sym (sets-eq (zeros n) t at (omega arith) ∙ rw l))

-- ---- one record

-- what is left of a list's first m
drop_of_take : (n m : ℕ) (l : List ℕ) → drop n (take m l) ≡ take (m - n) (drop n l)
drop_of_take zero m l = let e : m - 0 ≡ m = omega arith in rw e
drop_of_take (suc n) zero l = let e : 0 - suc n ≡ 0 = omega arith in rw e
drop_of_take (suc n) (suc m) [] = none (suc m - suc n)
  where
    none : (k : ℕ) → ◌≡◌ {A = List ℕ} [] (take k [])
    none zero = refl
    none (suc k) = refl
drop_of_take (suc n) (suc m) (x ∷ l) = let e : suc m - suc n ≡ m - n = omega arith in rw e (drop_of_take n m l)

module _ (s : List ℕ) (at size : ℕ) (some : least_size ≤ size) (inside : at + size ≤ length s) (newSize : ℕ) (new : least_size ≤ newSize) where
  abbrev piece : List ℕ
  piece = take size (drop at s)

  first : take 1 piece ≡ get_or s at 0 ∷ []
  first =
      let e : size ≡ suc (size - 1) = omega arith in
      ap (λ (m : ℕ). take 1 (take m (drop at s))) e ∙ rw (here s at (omega arith))

  date : drop (size - date_size) piece ≡ take date_size (drop (at + size - date_size) s)
  date =
      let e : size - (size - date_size) ≡ date_size = omega arith in
      let f : at + (size - date_size) ≡ at + size - date_size = omega arith in
      drop_of_take (size - date_size) size (drop at s) ∙ rw (e, drop-drop (size - date_size) at s, f)

  -- the kind's byte, zeros, the date's four bytes, each stored after the other
  pub recast-stores : (t t₁ t₂ v : List ℕ) (target : ℕ) → target + newSize ≤ length t → t₁ ≡ paste (set t target (get_or s at 0)) (target + 1) (zeros (newSize - least_size)) (newSize - least_size) →
      v ≡ take date_size (drop (at + size - date_size) s) → t₂ ≡ sets t₁ (target + newSize - date_size) v → t₂ ≡ sets t target (recast size newSize piece)
  recast-stores t t₁ t₂ v target h p q e =
      let k = get_or s at 0 in
      let z = zeros (newSize - least_size) in
      let l : length z ≡ newSize - least_size = zeros-long (newSize - least_size) in
      let one : target + 1 + (newSize - least_size) ≤ length (sets t target (k ∷ [])) = rw (length-set t target k) (omega arith) in
      let kind-zeros : t₁ ≡ sets t target (k ∷ z) = p ∙ zeros-set (sets t target (k ∷ [])) (target + 1) (newSize - least_size) one ∙ S.sets_more (k ∷ []) z t target in
      let end : target + newSize - date_size ≡ target + length (k ∷ z) = omega arith in
      e ∙ rw (kind-zeros, end, S.sets_more (k ∷ z) v t target, q, first, date)

-- ---- one record after the other

recast-long : (size newSize : ℕ) → least_size ≤ size → least_size ≤ newSize → (r : List ℕ) → Long size r → Long newSize (recast size newSize r)
recast-long size newSize some new r l =
    let one : length (take 1 r) ≡ 1 = length-take-le 1 r (omega arith) in
    rw (length-append, length-append, one, zeros-long (newSize - least_size), length-drop) (omega arith)

-- "each record recast" is a change of each, so what is said of changed pieces holds of the records
module _ (s : List ℕ) (size newSize : ℕ) (some : least_size ≤ size) (new : least_size ≤ newSize) where
  abbrev long : (r : List ℕ) → Long size r → Long newSize (recast size newSize r)
  long = recast-long size newSize some new

  pub ones-count : (i : ℕ) → length (recast_all size newSize (pieces i size (drop head_size s))) ≡ i
  ones-count i = S.ones-count (recast size newSize) size newSize long s i

  pub body-long : (i : ℕ) → head_size + i * size ≤ length s → length (joined (recast_all size newSize (pieces i size (drop head_size s)))) ≡ i * newSize
  body-long i h = S.body-long (recast size newSize) size newSize long s i h

  pub ones_none : (t : List ℕ) → t ≡ sets t head_size (joined (recast_all size newSize (pieces 0 size (drop head_size s))))
  ones_none t = S.ones_none (recast size newSize) size newSize long s t

  pub ones-more : (i : ℕ) (t out t₁ : List ℕ) → head_size + i * size ≤ length s → out ≡ sets t head_size (joined (recast_all size newSize (pieces i size (drop head_size s)))) →
      t₁ ≡ sets out (head_size + i * newSize) (recast size newSize (take size (drop (head_size + i * size) s))) →
      t₁ ≡ sets t head_size (joined (recast_all size newSize (pieces (i + 1) size (drop head_size s))))
  ones-more i t out t₁ h e p = S.ones-more (recast size newSize) size newSize long s i t out t₁ h e p

-- ---- the book of them

module _ (size version : ℕ) (rs : List (List ℕ)) (n : ℕ) (count : length rs ≡ n) (t : List ℕ) where
  pub lay-stores : (t₁ t₂ : List ℕ) → length (joined rs) ≡ n * size → room_of size n ≤ length t → t₁ ≡ sets t 0 (big_bytes length_size (1 + n * size)) →
      t₂ ≡ sets (set t₁ length_size version) head_size (joined rs) → t₂ ≡ lay_buffer size version rs t
  unfolding lay_buffer
  lay-stores t₁ t₂ l room p q =
      rw (count, le-leb (room_of size n) (length t) room) (S.stores (frame_of size n version) rs n count t t₁ t₂ l room p q)

  pub lay-kept : length t < room_of size n → (Refused no_room ≡ lay_answer size n t) × (t ≡ lay_buffer size version rs t)
  unfolding lay_answer lay_buffer
  lay-kept h = rw (count, lt-leb (room_of size n) (length t) h) (refl, refl)

  pub lay-gives : room_of size n ≤ length t → Gives n ≡ lay_answer size n t
  unfolding lay_answer
  lay-gives h = rw (le-leb (room_of size n) (length t) h)
