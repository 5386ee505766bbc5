-- What it is to hold a book of some records, that `records` finds them exactly then, and what check and record at a place then answer. Over
-- the format. Assumes nothing.
use mathlib.Core.Path.{◌≡◌, refl, sym, ap, subst, ◌∙◌}
use mathlib.Core.Bool.{Bool, true, false, cond}
use mathlib.Core.List.{List}
use Prim.Native.Nat.{ℕ, ◌+◌, ◌*◌, ◌-◌, ◌/◌, ◌≤◌, ◌<◌}
use native.Mathlib.Nat.{mul-le-mul_right, mul-div_cancel}
use native.Mathlib.Omega.{arith}
use borrow.Author.Tests.{le-ltb, lt-ltb, ltb-false}
use lib.Dec.{T, ltb}
use lib.ListN.{length, take, drop}
use lib.Seq.{drop-drop}
use Rattle.rules.specs.Refusals.{Answer, Gives, Refused, RefusedAt, ◌then◌, given, bad_record, no_record}
use Rattle.rules.specs.Book.{Format, sound_by, head_size, length_said, pieces, framed, first_bad, all_pass, records, check, pick, record_at, entry_at}
use Rattle.rules.proofs.OnBook.PieceLaws.{piece-count, each-sound, pick-piece, pick-past}
use Rattle.rules.proofs.OnBook.FrameLaws.{Sensible, Framed, then-met, same-refusal, same_place, framed-found, found_framed, count_cut}

-- s starts with a book of the records rs
pub record Holds {A : Type 0} (format : Format A) (s : List ℕ) (rs : List (List ℕ)) : Type 0 where
  pub frame : Framed format.frame s rs
  pub sound : length rs ≤ first_bad (sound_by format) rs

-- the count, from what is answered of the records, or of the frame
pub count_by : {A : Type 0} (format : Format A) (s : List ℕ) {x : Answer (List (List ℕ))} → records format s ≡ x → check format s ≡ (x then λ rs. Gives (length rs))
unfolding check
count_by format s e = ap (λ (a : Answer (List (List ℕ))). a then λ rs. Gives (length rs)) e

pub records-by : {A : Type 0} (format : Format A) (s : List ℕ) {x : Answer (List (List ℕ))} → framed format.frame s ≡ x →
    records format s ≡ (x then all_pass bad_record (sound_by format))
unfolding records
records-by format s e = ap (λ (a : Answer (List (List ℕ))). a then all_pass bad_record (sound_by format)) e

pub check-by : {A : Type 0} (format : Format A) (s : List ℕ) {x : Answer (List (List ℕ))} → framed format.frame s ≡ x →
    check format s ≡ (x then all_pass bad_record (sound_by format) then λ rs. Gives (length rs))
check-by format s e = count_by format s (records-by format s e)

-- ---- all pass, or the first that fails is told

module _ (n : ℕ) (test : List ℕ → Bool) (rs : List (List ℕ)) where
  pub none-fails : length rs ≤ first_bad test rs → all_pass n test rs ≡ Gives rs
  unfolding all_pass
  none-fails h = rw (le-ltb (first_bad test rs) (length rs) h)

  pub one-fails : first_bad test rs < length rs → all_pass n test rs ≡ RefusedAt n (first_bad test rs)
  unfolding all_pass
  one-fails h = rw (lt-ltb (first_bad test rs) (length rs) h)

  pub pass-met : (xs : List (List ℕ)) → all_pass n test rs ≡ Gives xs → (length rs ≤ first_bad test rs) × (rs ≡ xs)
  unfolding all_pass
  pass-met xs e = inner (ltb (first_bad test rs) (length rs)) refl e
    where
      inner : (t : Bool) → ltb (first_bad test rs) (length rs) ≡ t → cond t (RefusedAt n (first_bad test rs)) (Gives rs) ≡ Gives xs →
          (length rs ≤ first_bad test rs) × (rs ≡ xs)
      inner true p q = let z : ◌≡◌ {A = ℕ} 0 1 = cc in absurd (omega arith)
      inner false p q = (ltb-false (first_bad test rs) (length rs) p, cc)

-- ---- the check, from the number of the frame's pieces

-- what refuses the frame refuses the book
pub frame_refused : {A : Type 0} (format : Format A) (s : List ℕ) (n : ℕ) →
    (framed format.frame s then λ rs. Gives (length rs)) ≡ Refused n → check format s ≡ Refused n
frame_refused format s n e = check-by format s (same-refusal (framed format.frame s) length n e)

-- of n pieces, by the first bad one that was found
module _ {A : Type 0} (format : Format A) (sensible : Sensible format.frame) (s : List ℕ) (n : ℕ)
    (e : (framed format.frame s then λ rs. Gives (length rs)) ≡ Gives n)
    {r : ℕ} (f : r ≡ first_bad (sound_by format) (pieces n format.frame.size (drop head_size s))) where
  many : length (pieces n format.frame.size (drop head_size s)) ≡ n
  many = piece-count n format.frame.size (drop head_size s)

  pub one-bad : r < n → check format s ≡ RefusedAt bad_record r
  unfolding all_pass
  one-bad h = check-by format s (count_cut format.frame sensible s n e) ∙ rw (← f, many, lt-ltb r n h)

  pub all-good : n ≤ r → check format s ≡ Gives n
  unfolding all_pass
  all-good h = check-by format s (count_cut format.frame sensible s n e) ∙ rw (← f, many, le-ltb r n h, many)

-- ---- a book's records are what is found, and the other way round

module _ {A : Type 0} (format : Format A) (sensible : Sensible format.frame) where
  abbrev k : ℕ
  k = format.frame.size

  pub holds-found : (s : List ℕ) (rs : List (List ℕ)) → Holds format s rs → records format s ≡ Gives rs
  holds-found s rs b =
      records-by format s (framed-found format.frame sensible s rs b.frame) ∙ none-fails bad_record (sound_by format) rs b.sound

  pub found-holds : (s : List ℕ) (rs : List (List ℕ)) → records format s ≡ Gives rs → Holds format s rs
  unfolding records
  found-holds s rs e =
      let g = then-met (framed format.frame s) (all_pass bad_record (sound_by format)) rs e in
      let p = pass-met bad_record (sound_by format) g.value rs g.next in
      record {
        frame = found_framed format.frame sensible s rs (g.is ∙ ap Gives p.1);
        sound = rw p.1 at p.0;
      }

  -- what a count tells
  pub record Counted (s : List ℕ) (n : ℕ) : Type 0 where
    pub list : List (List ℕ)
    pub found : records format s ≡ Gives list
    pub count : length list ≡ n
    pub holds : Holds format s list

  pub counted : (s : List ℕ) (n : ℕ) → check format s ≡ Gives n → Counted s n
  unfolding check
  counted s n e =
      let g = then-met (records format s) (λ rs. Gives (length rs)) n e in
      let c : length g.value ≡ n = cc g.next in
      record { list = g.value; found = g.is; count = c; holds = found-holds s g.value g.is }

  pub count-says : (s : List ℕ) (n : ℕ) → check format s ≡ Gives n → length_said s ≡ 1 + n * k
  count-says s n e = let c = counted s n e in rw c.count at c.holds.frame.says

  -- a checked book has as many records as its length says
  pub checked : (s : List ℕ) → given (check format s) ≡ true → Counted s ((length_said s - 1) / k)
  checked s e = inner (check format s) refl e
    where
      inner : (x : Answer ℕ) → check format s ≡ x → given x ≡ true → Counted s ((length_said s - 1) / k)
      inner (Gives n) p q =
          let h = count-says s n p in
          let u : length_said s - 1 ≡ n * k = omega arith in
          let d : (length_said s - 1) / k ≡ n = ap (λ (x : ℕ). x / k) u ∙ mul-div_cancel n sensible.some in
          counted s ((length_said s - 1) / k) (p ∙ ap Gives (sym d))
      inner (Refused code) p q = absurd (subst T (sym q) tt)
      inner (RefusedAt code place) p q = absurd (subst T (sym q) tt)

  -- ---- what stands at a place of a book of n records

  module _ (s : List ℕ) (n : ℕ) (c : Counted s n) (i : ℕ) where
    abbrev pub record_here : List ℕ
    record_here = take k (drop (head_size + i * k) s)

    pub ends-inside : i < n → head_size + i * k + k ≤ length s
    ends-inside h =
        let f = c.holds.frame.fits in let m = c.count in
        let q : (i + 1) * k ≤ length c.list * k = mul-le-mul_right k (let g : i + 1 ≤ length c.list = omega arith in g) in
        omega arith

    picked : i < n → pick c.list i ≡ Gives record_here
    picked h =
        let m = c.count in
        let p : pick (pieces (length c.list) k (drop head_size s)) i ≡ Gives (take k (drop (i * k) (drop head_size s))) =
        pick-piece (length c.list) k (drop head_size s) i (omega arith) in
        rw (c.holds.frame.cut, drop-drop (i * k) head_size s) at p

    pub record-here : i < n → record_at format s i ≡ Gives record_here
    unfolding record_at
    record-here h = rw c.found (picked h)

    pub sound-here : i < n → sound_by format record_here ≡ true
    sound-here h = each-sound (sound_by format) c.list c.holds.sound i record_here (picked h)

    pub record-none : n ≤ i → record_at format s i ≡ Refused no_record
    unfolding record_at
    record-none h = rw c.found (pick-past c.list i (let m = c.count in omega arith))

-- the entry at a place, from what is answered of the record there
pub entry-by : {A : Type 0} (format : Format A) (s : List ℕ) (i : ℕ) {x : Answer (List ℕ)} → record_at format s i ≡ x → entry_at format s i ≡ (x then format.entry)
unfolding entry_at
entry-by format s i e = ap (λ (a : Answer (List ℕ)). a then format.entry) e

-- ---- where the check refuses, so does all else, and in the same words

pub record-refused : {A : Type 0} (format : Format A) (s : List ℕ) (n i : ℕ) → check format s ≡ Refused n → record_at format s i ≡ Refused n
unfolding check record_at
record-refused format s n i e = rw (same-refusal (records format s) length n e)

pub record-bad : {A : Type 0} (format : Format A) (s : List ℕ) (n place i : ℕ) → check format s ≡ RefusedAt n place → record_at format s i ≡ RefusedAt n place
unfolding check record_at
record-bad format s n place i e = rw (same_place (records format s) length n place e)
