-- Bytes put over, put in and taken out are entries declared and removed: each way in which `declare` and `remove` answer, and the buffer
-- then, by where the key was found. Over the bytes of a key. Assumes nothing.
use mathlib.Core.Path.{◌≡◌, refl, sym, ap, ◌∙◌}
use mathlib.Core.Bool.{true, false, ◌||◌}
use mathlib.Core.List.{List, ◌∷◌, ◌++◌, append_assoc}
use Prim.Native.Nat.{ℕ, suc, ◌+◌, ◌*◌, ◌-◌, ◌≤◌, ◌<◌}
use native.Mathlib.Nat.{add-mul, mul-le-mul_right, add-zero}
use native.Mathlib.Omega.{arith}
use borrow.Author.Tests.{le-leb, lt-leb, le-ltb, lt-ltb}
use lib.ListN.{length, take, drop, replicate, length-drop}
use lib.Seq.{sets, paste, length-paste, take-add, drop_at, drop-drop, drop-paste, length-take-le, take_all}
use Rattle.rules.specs.Words.{big_bytes}
use Rattle.std.specs.Prelude.{Ok, Err}
use Rattle.rules.specs.Refusals.{Answer, Gives, Refused}
use Rattle.rules.specs.Book.{length_size, head_size, version_of, pieces}
use Rattle.rules.proofs.OnBook.PieceLaws.{piece-count}
use Rattle.requests.specs.Entries.{ascends, some, standing, declare, remove}
use Rattle.requests.specs.FieldTable.{TableFormat, key_in, table_full, not_there, has_room, counted, declare_in, remove_in, table_buffer}
use Rattle.requests.proofs.OnEntries.ChangeLaws.{placed-new, placed-over, placed-out}
use Rattle.requests.proofs.OnLaid.CutLaws.{put_in, put-over, taken_out}
use Rattle.requests.proofs.OnFieldTable.BufferLaws.{relaid, relaid-count}
use Rattle.shifts.specs.Shifts.{opened, closed}
use Rattle.shifts.proofs.Parts.{opened-length, closed-length, front_kept, opened_after, closed_after}
use Rattle.field_table.specs.Search.{Room, entries_in, find_of}
use Rattle.field_table.specs.Views.{table_of}
use Rattle.field_table.proofs.Keys.{inside}
use Rattle.field_table.proofs.Finds.{at-tells, absent-tells}

-- what lies behind the first h bytes, where the first h + m are kept
behind : (h m : ℕ) (s y : List ℕ) → h ≤ length s → drop h (take (h + m) s ++ y) ≡ take m (drop h s) ++ y
behind h m s y l =
    rw (take-add h m s) (ap (drop h) (append_assoc (take h s) (take m (drop h s)) y) ∙ drop_at (take h s) (take m (drop h s) ++ y) h (length-take-le h s l))

-- ---- the entries from the bytes

module _ (n k : ℕ) (s : List ℕ) (fits : head_size + n * k ≤ length s) (i : ℕ) where
  abbrev rs : List (List ℕ)
  rs = pieces n k (drop head_size s)

  abbrev t : List ℕ
  t = drop head_size s

  enough : n * k ≤ length t
  enough = rw length-drop (omega arith)

  -- the bytes of m entries, where j others stand before them
  rest : (m j : ℕ) → m + j ≡ n → head_size + n * k - (head_size + j * k) ≡ m * k
  rest m j e = let z : m * k + j * k ≡ n * k = sym (add-mul m j k) ∙ ap (λ (x : ℕ). x * k) e in omega arith

  opened-entries : (v : List ℕ) → length v ≡ k → i ≤ n → pieces (n + 1) k (drop head_size (opened (head_size + i * k) (head_size + n * k) v s)) ≡ take i rs ++ v ∷ drop i rs
  unfolding opened
  opened-entries v e l =
      let y = drop (head_size + n * k + length v) s in
      let z = rest (n - i) i (omega arith) in
      rw (behind head_size (i * k) s _ (omega arith), z, ← drop-drop (i * k) head_size s) (put_in n k t enough i v y e l)

  over-entries : (v : List ℕ) → length v ≡ k → i < n → pieces n k (drop head_size (paste s (head_size + i * k) v (length v))) ≡ take i rs ++ v ∷ drop (i + 1) rs
  over-entries v e l =
      let all : take (length v) v ≡ v = take_all (length v) v (omega arith) in
      let z : head_size + i * k + length v ≡ head_size + (i + 1) * k = omega arith in
      rw (all, append_assoc, behind head_size (i * k) s _ (omega arith), z, ← drop-drop ((i + 1) * k) head_size s) (put-over n k t enough i v e l)

  closed-entries : i < n → pieces (n - 1) k (drop head_size (closed (head_size + i * k) (head_size + n * k) k s)) ≡ take i rs ++ drop (i + 1) rs
  unfolding closed
  closed-entries l =
      let y = replicate k 0 ++ drop (head_size + n * k) s in
      let z : head_size + i * k + k ≡ head_size + (i + 1) * k = omega arith in
      let w : head_size + n * k - k - (head_size + i * k) ≡ (n - (i + 1)) * k = omega (arith, rest (n - (i + 1)) (i + 1) (omega arith)) in
      rw (behind head_size (i * k) s _ (omega arith), w, z, ← drop-drop ((i + 1) * k) head_size s) (taken_out n k t enough i y l)

  -- the version byte stays
  opened-version : (v : List ℕ) → i * k ≤ n * k → version_of (opened (head_size + i * k) (head_size + n * k) v s) ≡ version_of s
  unfolding opened
  opened-version v h = front_kept s _ (head_size + i * k) length_size (omega arith) (omega arith)

  closed-version : i * k ≤ n * k → version_of (closed (head_size + i * k) (head_size + n * k) k s) ≡ version_of s
  unfolding closed
  closed-version h = front_kept s _ (head_size + i * k) length_size (omega arith) (omega arith)

  -- behind an entry that was written over
  over-after : (v : List ℕ) → length v ≡ k → i < n → drop (head_size + n * k) (paste s (head_size + i * k) v (length v)) ≡ drop (head_size + n * k) s
  over-after v e l =
      let at = head_size + i * k in
      let d = head_size + n * k - (at + length v) in
      let m : (i + 1) * k ≤ n * k = mul-le-mul_right k (let g : i + 1 ≤ n = omega arith in g) in
      let z : head_size + n * k ≡ at + length v + d = omega arith in
      rw z (sym (drop-drop d (at + length v) (paste s at v (length v)))
      ∙ ap (drop d) (drop-paste s at v (length v) (omega arith) (omega arith)) ∙ drop-drop d (at + length v) s)

-- ---- declare

module _ (key_size most n : ℕ) (v s : List ℕ) (room : Room key_size n (length s)) (a : ascends (key_in key_size) 0 (entries_in key_size n s) ≡ true)
    (long : length v ≡ key_size + 1) where
  abbrev table : TableFormat
  table = table_of key_size most (version_of s)

  abbrev key : List ℕ → ℕ
  key = key_in key_size

  abbrev size : ℕ
  size = key_size + 1

  abbrev es : List (List ℕ)
  es = entries_in key_size n s

  -- the answer is x, and t the buffer then
  abbrev Declared : List ℕ → Answer ℕ → Type 0
  Declared t x = (x ≡ counted (declare_in table s es v)) × (t ≡ table_buffer table 0 (declare_in table s es v) s)

  -- m entries with it, from bytes u whose length is written then
  into : (m : ℕ) (u : List ℕ) → (some (standing key (key v) es) || has_room table es s) ≡ true → head_size + m * size ≤ length u →
      pieces m size (drop head_size u) ≡ declare key v es → version_of u ≡ version_of s → drop (head_size + m * size) u ≡ drop (head_size + m * size) s →
      Declared (sets u 0 (big_bytes length_size (1 + m * size))) (Gives m)
  unfolding declare_in
  into m u h fits are version after =
      rw h (relaid-count table m 0 s u (declare key v es) fits are, relaid table m 0 s u (declare key v es) fits are version (rw (add-zero (head_size + m * size)) after))

  pub declare-over : {i : ℕ} {u t : List ℕ} → Ok i ≡ find_of key_size (key v) es → u ≡ paste s (head_size + i * size) v (length v) →
      t ≡ sets u 0 (big_bytes length_size (1 + n * size)) → Declared t (Gives n)
  declare-over {i} e p q =
      let w = at-tells key_size n s (key v) i a e in
      let f = room.fits in
      let in-it = inside room i w.within in
      let are : pieces n size (drop head_size (paste s (head_size + i * size) v (length v))) ≡ declare key v es =
      over-entries n size s f i v long w.within ∙ rw w.here (placed-over key (key v) 0 es a w.entry v refl w.only) in
      let l : length (paste s (head_size + i * size) v (length v)) ≡ length s = length-paste s (head_size + i * size) v (length v) (omega arith) (omega arith) in
      let kept : version_of (paste s (head_size + i * size) v (length v)) ≡ version_of s =
      ap version_of (append_assoc (take (head_size + i * size) s) _ _) ∙ front_kept s _ (head_size + i * size) length_size (omega arith) (omega arith) in
      rw (q, p) (into n (paste s (head_size + i * size) v (length v)) (rw w.only) (rw l f) are kept (over-after n size s f i v long w.within))

  module _ {i : ℕ} (e : Err i ≡ find_of key_size (key v) es) where
    none : some (standing key (key v) es) ≡ false
    none = rw (absent-tells key_size n s (key v) i a e).none

    count : length es ≡ n
    count = piece-count n size (drop head_size s)

    pub declare-in : {u t : List ℕ} → n < most → head_size + n * size + size ≤ length s → u ≡ opened (head_size + i * size) (head_size + n * size) v s →
        t ≡ sets u 0 (big_bytes length_size (1 + (n + 1) * size)) → Declared t (Gives (n + 1))
    declare-in g h p q =
        let w = absent-tells key_size n s (key v) i a e in
        let f = room.fits in
        let m : i * size ≤ n * size = mul-le-mul_right size w.within in
        let z : head_size + n * size + length v ≡ head_size + (n + 1) * size = omega arith in
        let o = opened (head_size + i * size) (head_size + n * size) v s in
        let are : pieces (n + 1) size (drop head_size o) ≡ declare key v es =
        opened-entries n size s f i v long w.within ∙ rw w.here (placed-new key (key v) 0 es a v refl w.none) in
        let l : length o ≡ length s = opened-length (head_size + i * size) (head_size + n * size) v s (omega arith) (omega arith) in
        let after = rw z at (opened_after (head_size + i * size) (head_size + n * size) v s (omega arith) (omega arith)) in
        let r : has_room table es s ≡ true = rw (count, lt-ltb n most g, le-leb (head_size + suc n * size) (length s) (omega arith)) in
        rw (q, p) (into (n + 1) o (rw (none, r)) (rw l (omega arith)) are (opened-version n size s f i v m) after)

    refused : has_room table es s ≡ false → Declared s (Refused table_full)
    unfolding declare_in counted table_buffer
    refused h = rw (none, h) (refl, refl)

    pub declare-full : most ≤ n → Declared s (Refused table_full)
    declare-full g = refused (rw (count, le-ltb n most g))

    pub declare-short : n < most → length s < head_size + n * size + size → Declared s (Refused table_full)
    declare-short g h = refused (rw (count, lt-ltb n most g, lt-leb (head_size + suc n * size) (length s) (omega arith)))

-- ---- remove

module _ (key_size n q : ℕ) (s : List ℕ) (room : Room key_size n (length s)) (a : ascends (key_in key_size) 0 (entries_in key_size n s) ≡ true) where
  abbrev format : TableFormat
  format = table_of key_size n (version_of s)

  abbrev width : ℕ
  width = key_size + 1

  abbrev from : List (List ℕ)
  from = entries_in key_size n s

  abbrev Removed : List ℕ → Answer ℕ → Type 0
  Removed t x = (x ≡ counted (remove_in key_size q from)) × (t ≡ table_buffer format width (remove_in key_size q from) s)

  pub remove-at : {i : ℕ} {u t : List ℕ} → Ok i ≡ find_of key_size q from → u ≡ closed (head_size + i * width) (head_size + n * width) width s →
      t ≡ sets u 0 (big_bytes length_size (1 + (n - 1) * width)) → Removed t (Gives (n - 1))
  unfolding remove_in
  remove-at {i} e p r =
      let w = at-tells key_size n s q i a e in
      let f = room.fits in
      let h = w.within in
      let m : (i + 1) * width ≤ n * width = mul-le-mul_right width (let g : i + 1 ≤ n = omega arith in g) in
      let o : (n - 1) * width + width ≡ n * width = (let g : n - 1 + 1 ≡ n = omega arith in let d : (n - 1 + 1) * width ≡ n * width = ap (λ (x : ℕ). x * width) g in omega arith) in
      let c = closed (head_size + i * width) (head_size + n * width) width s in
      let l : length c ≡ length s = closed-length (head_size + i * width) (head_size + n * width) width s (omega arith) f in
      let z : head_size + n * width - width ≡ head_size + (n - 1) * width = omega arith in
      let y : head_size + n * width ≡ head_size + (n - 1) * width + width = omega arith in
      let after : drop (head_size + (n - 1) * width) c ≡ replicate width 0 ++ drop (head_size + (n - 1) * width + width) s =
      ap (λ (x : ℕ). drop x c) (sym z) ∙ closed_after (head_size + i * width) (head_size + n * width) width s (omega arith) f
      ∙ ap (λ (x : ℕ). replicate width 0 ++ drop x s) y in
      let are : pieces (n - 1) width (drop head_size c) ≡ remove (key_in key_size) q from =
      closed-entries n width s f i h ∙ rw w.here (placed-out (key_in key_size) q 0 from a w.entry w.only) in
      let fits : head_size + (n - 1) * width ≤ length c = rw l (omega arith) in
      rw (r, p, w.only) (
        relaid-count format (n - 1) width s c (remove (key_in key_size) q from) fits are,
        relaid format (n - 1) width s c (remove (key_in key_size) q from) fits are (closed-version n width s f i (omega arith)) after,
      )

  pub remove-none : {i : ℕ} → Err i ≡ find_of key_size q from → Removed s (Refused not_there)
  unfolding remove_in counted table_buffer
  remove-none {i} e = rw (absent-tells key_size n s q i a e).none (refl, refl)
