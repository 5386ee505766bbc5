-- What an append leaves: the old records and the new one after them, and every byte past the book's new end as it was; and that a new book
-- has no record. Over the format. Assumes nothing.
use mathlib.Core.Path.{◌≡◌, refl, sym, ap, ◌∙◌}
use mathlib.Core.Bool.{true, ◌&&◌}
use mathlib.Core.List.{List, [], ◌∷◌, ◌++◌, append_assoc}
use Prim.Native.Nat.{ℕ, suc, ◌+◌, ◌*◌, ◌-◌, ◌^◌, ◌≤◌, ◌<◌, zero-le}
use native.Mathlib.Nat.{mul-le-mul_right}
use native.Mathlib.Omega.{arith}
use borrow.Author.Tests.{le-leb, leb-true, ltb-true}
use lib.Dec.{leb, ltb, lit<}
use lib.ListN.{length, take, drop, length-append, length-drop, take-append-drop}
use lib.Seq.{length-take-le, take_at, drop_at, get_or_at, drop-append-add}
use Rattle.rules.specs.Words.{big_bytes}
use Rattle.rules.specs.Refusals.{Answer, Gives, Refused, RefusedAt, ◌then◌, given, no_room, guessed_date}
use Rattle.rules.specs.Book.{Frame, Format, sound_by, length_size, head_size, length_said, version_of, pieces, framed, first_bad, all_pass, records, check, pick, record_at, entry_at, place_after, taken_by, append_answer, appended, append_buffer, new_answer, new_buffer}
use Rattle.rules.proofs.Shared.Rests.{here}
use Rattle.rules.proofs.OnKinds.KindLaws.{left, right}
use Rattle.rules.proofs.OnWords.ByteLaws.{byte-count, number-back}
use Rattle.rules.proofs.OnBook.PieceLaws.{pieces-front, pieces_more, one_more, pick-old, pick-new}
use Rattle.rules.proofs.OnBook.AppendAnswers.{append-by}
use Rattle.rules.proofs.OnBook.FrameLaws.{Sensible, demand-met, then-met, framed-found}
use Rattle.rules.proofs.OnBook.BookLaws.{Holds, holds-found, check-by, entry-by, Counted, counted}

-- ---- after an append that gave a place

module _ {A : Type 0} (format : Format A) (sensible : Sensible format.frame) where
  abbrev k : ℕ
  k = format.frame.size

  -- what the place tells: so many records stood there, fewer than the most, there was room, and the record is one of the format
  pub record Room (r s : List ℕ) (n : ℕ) : Type 0 where
    pub count : Counted format sensible s n
    pub less : n < format.frame.most
    pub room : length_said s + length_size + k ≤ length s
    pub well : sound_by format r ≡ true

  pub place-tells : (r s : List ℕ) (n : ℕ) → append_answer format (Gives r) s ≡ Gives n → Room r s n
  place-tells r s n e =
      let taken = then-met (check format s then place_after format.frame s) (taken_by format r) n (sym (append-by format s r) ∙ e) in
      let p = demand-met (sound_by format r) guessed_date (Gives taken.value) n taken.next in
      let same : taken.value ≡ n = cc p.1 in
      let c = then-met (check format s) (place_after format.frame s) n (taken.is ∙ ap Gives same) in
      let m = c.value in
      let t = ltb m format.frame.most in
      let g = demand-met (t && leb (length_said s + length_size + k) (length s)) no_room (Gives m) n c.next in
      let z : m ≡ n = cc g.1 in
      let l : m < format.frame.most = ltb-true m format.frame.most (left t _ g.0) in
      record { count = counted format sensible s n (c.is ∙ ap Gives z); less = omega arith; room = leb-true _ _ (right t _ g.0); well = p.0 }

  module _ (r s : List ℕ) (n : ℕ) (e : append_answer format (Gives r) s ≡ Gives n) (size : length r ≡ k) where
    abbrev pub after : List ℕ
    after = append_buffer format (Gives r) s

    pub told : Room r s n
    told = place-tells r s n e

    -- the records that stood there
    abbrev pub rs : List (List ℕ)
    rs = told.count.list

    abbrev head : List ℕ
    head = big_bytes length_size (length_said s + k)

    -- the bytes of the old records, and what lies past the new one
    abbrev old : List ℕ
    old = take (n * k) (drop head_size s)

    abbrev past : List ℕ
    past = drop (length_said s + length_size + k) s

    pub said : length_said s ≡ 1 + n * k
    said = let c = told.count.count in rw c at told.count.holds.frame.says

    four : length head ≡ length_size
    four = byte-count length_size (length_said s + k)

    old-long : length old ≡ n * k
    old-long = length-take-le (n * k) (drop head_size s) (rw length-drop (let a = said in let b = told.room in omega arith))

    -- part by part
    pub in_parts : after ≡ head ++ (version_of s ∷ (old ++ (r ++ past)))
    unfolding append_buffer appended
    in_parts =
        let a = said in let b = told.room in
        let l : length_said s ≡ suc (n * k) = omega arith in
        let body : take (length_said s) (drop length_size s) ≡ version_of s ∷ old = rw (l, here s length_size (omega arith)) in
        rw (e, body) (append_assoc (head ++ (version_of s ∷ old)) r past ∙ append_assoc head (version_of s ∷ old) (r ++ past))

    pub same_length : length after ≡ length s
    same_length =
        let a = said in let b = told.room in let f = four in let o = old-long in
        rw (in_parts, length-append, length-append, length-append, length-drop, size) (omega arith)

    small : length_said s + k < 256 ^ length_size
    small =
        let a = said in let l = told.less in let f = sensible.fits in
        let m : (n + 1) * k ≤ format.frame.most * k = mul-le-mul_right k (let g : n + 1 ≤ format.frame.most = omega arith in g) in
        omega arith

    pub said-after : length_said after ≡ length_said s + k
    unfolding length_said
    said-after = rw (in_parts, take_at head (version_of s ∷ (old ++ (r ++ past))) length_size four) (number-back length_size (length_said s + k) small)

    behind-head : drop head_size after ≡ old ++ (r ++ past)
    behind-head =
        let z : head_size ≡ length head + 1 = let f = four in omega arith in
        rw (in_parts, z) (drop-append-add head (version_of s ∷ (old ++ (r ++ past))) 1)

    -- every byte past the book's new end is untouched
    pub rest-after : drop (length_said after + length_size) after ≡ drop (length_said after + length_size) s
    unfolding append_buffer appended
    rest-after =
        let a = said in let b = told.room in
        let body : length (take (length_said s) (drop length_size s)) ≡ length_said s =
        length-take-le (length_said s) (drop length_size s) (rw length-drop (omega arith)) in
        let front : length (head ++ take (length_said s) (drop length_size s) ++ r) ≡ length_said s + length_size + k =
        rw (length-append, length-append, four, body, size) (omega arith) in
        let z : length_said s + k + length_size ≡ length_said s + length_size + k = omega arith in
        rw (said-after, z, e) (drop_at (head ++ take (length_said s) (drop length_size s) ++ r) past _ front)

    pub holds_after : Holds format after (rs ++ r ∷ [])
    holds_after =
        let h = told.count.holds in let c = told.count.count in
        let more : length (rs ++ r ∷ []) ≡ suc n = rw (length-append, c) (omega arith) in
        let front : drop head_size s ≡ old ++ drop (n * k) (drop head_size s) = sym (take-append-drop (n * k) (drop head_size s)) in
        let cut : pieces n k old ≡ rs =
        sym (pieces-front n k old (drop (n * k) (drop head_size s)) old-long) ∙ ap (pieces n k) (sym front) ∙ rw c at h.frame.cut in
        let a = said in let b = told.room in let l = told.less in let t = said-after in let u = same_length in
        record {
          frame = record {
            says = rw more (omega arith);
            most = rw more (omega arith);
            fits = rw (more, same_length) (omega arith);
            version = rw in_parts (get_or_at head (version_of s) (old ++ (r ++ past)) 0 length_size four ∙ h.frame.version);
            cut = rw (more, behind-head) (pieces_more n k old r past old-long size ∙ ap (λ (l : List (List ℕ)). l ++ r ∷ []) cut);
          };
          sound = one_more (sound_by format) rs r h.sound told.well;
        }

    records-after : records format after ≡ Gives (rs ++ r ∷ [])
    records-after = holds-found format sensible after (rs ++ r ∷ []) holds_after

    -- the check counts one more
    pub count-after : check format after ≡ Gives (n + 1)
    unfolding check
    count-after = rw (records-after, length-append, told.count.count)

    -- the old places give the old records
    pub old-after : (i : ℕ) → i < n → record_at format after i ≡ record_at format s i
    unfolding record_at
    old-after i h = rw (records-after, told.count.found) (pick-old rs (r ∷ []) i (let c = told.count.count in omega arith))

    -- and the new place the new one
    pub new-after : record_at format after n ≡ Gives r
    unfolding record_at
    new-after = rw records-after (ap (pick (rs ++ r ∷ [])) (sym told.count.count) ∙ pick-new rs r)

-- ---- the same of what the records are

module _ {A : Type 0} (format : Format A) (sensible : Sensible format.frame) (r s : List ℕ) (n : ℕ) (e : append_answer format (Gives r) s ≡ Gives n)
    (size : length r ≡ format.frame.size) where
  abbrev left_by : List ℕ
  left_by = append_buffer format (Gives r) s

  pub count-more : check format left_by ≡ Gives (n + 1)
  count-more = count-after format sensible r s n e size

  pub old-entries : (i : ℕ) → i < n → entry_at format left_by i ≡ entry_at format s i
  old-entries i h = entry-by format left_by i (old-after format sensible r s n e size i h) ∙ sym (entry-by format s i refl)

  pub new-entry : entry_at format left_by n ≡ format.entry r
  new-entry = entry-by format left_by n (new-after format sensible r s n e size)

-- ---- a new book has no record

module _ (frame : Frame) (sensible : Sensible frame) where
  pub new-framed : (s : List ℕ) → head_size ≤ length s → framed frame (new_buffer frame.version s) ≡ Gives []
  unfolding new_buffer new_answer length_said pieces
  new-framed s h =
      let a = big_bytes length_size 1 in
      let t = new_buffer frame.version s in
      let is : t ≡ a ++ (frame.version ∷ drop head_size s) =
      rw (le-leb head_size (length s) h) (append_assoc a (frame.version ∷ []) (drop head_size s)) in
      let f = byte-count length_size 1 in
      let said : length_said t ≡ 1 =
      rw (is, take_at a (frame.version ∷ drop head_size s) length_size f) (number-back length_size 1 (lit< tt)) in
      let long : length t ≡ length s = rw (is, length-append, length-drop) (omega arith) in
      framed-found frame sensible t [] (record {
        says = omega arith;
        most = zero-le;
        fits = rw long (omega arith);
        version = rw is (get_or_at a frame.version (drop head_size s) 0 length_size f);
        cut = refl;
      })

pub new-count : {A : Type 0} (format : Format A) (sensible : Sensible format.frame) (s : List ℕ) → head_size ≤ length s → check format (new_buffer format.frame.version s) ≡ Gives 0
unfolding all_pass first_bad
new-count format sensible s h = check-by format (new_buffer format.frame.version s) (new-framed format.frame sensible s h)
