-- #110: what is answered of a listing in a lent buffer: 8, 7 or its length, each exactly when, and what the buffer holds then. Assumes nothing.
use mathlib.Core.Path.{◌≡◌, refl, sym, ap, ◌∙◌}
use mathlib.Core.Logic.{◌↔◌}
use mathlib.Core.Bool.{Bool, true, false}
use mathlib.Core.List.{List, map, append-nil}
use Prim.Native.Nat.{ℕ, ◌*◌, ◌≤◌, ◌<◌}
use native.Mathlib.Omega.{arith}
use borrow.Author.Tests.{le-leb, lt-leb, leb-true, leb-false}
use lib.Dec.{leb}
use lib.ListN.{length, replicate, length-replicate}
use Rattle.rules.specs.Refusals.{Answer, Gives, Refused, RefusedAt, demand, given, buffer_short}
use Rattle.rules.specs.Spelling.{put_answer, put_buffer}
use Rattle.rules.specs.Listing.{line_output, lines, joined, input_limit, listing}
use Rattle.rules.proofs.Shared.Rests.{past}
use Rattle.rules.proofs.OnListing.LineLaws.{lists}
use Rattle.rules.proofs.OnRefusals.Determined.{back_by}
use Rattle.requests.specs.ListingRoom.{too_many_bytes, listing_room, lent_listing}
use Rattle.requests.proofs.OnListingRoom.RoomLaws.{listing-room, room-reached}

-- ---- what is listed

pub lent_gives : (s : List ℕ) → length s ≤ input_limit → lent_listing s ≡ Gives (listing s)
unfolding lent_listing
lent_gives s h = rw (le-leb _ _ h)

pub lent_none : (s : List ℕ) → input_limit < length s → lent_listing s ≡ Refused too_many_bytes
unfolding lent_listing
lent_none s h = rw (lt-leb _ _ h)

-- ---- the three answers

module _ (s l : List ℕ) where
  abbrev answer : Answer ℕ
  answer = put_answer (lent_listing s) l

  many : input_limit < length s → answer ≡ Refused too_many_bytes
  unfolding put_answer
  many h = rw (lent_none s h)

  short : length s ≤ input_limit → length l < length (listing s) → answer ≡ Refused buffer_short
  unfolding put_answer
  short h q = rw (lent_gives s h, lt-leb _ _ q)

  pub fits : length s ≤ input_limit → length (listing s) ≤ length l → answer ≡ Gives (length (listing s))
  unfolding put_answer
  fits h q = rw (lent_gives s h, le-leb _ _ q)

  -- each of them by what it is told apart by
  abbrev number_told : Answer ℕ → ℕ
  number_told = back_by (λ n. 0) (λ n. n)

  apart : {x y : Answer ℕ} → answer ≡ x → answer ≡ y → number_told x ≡ number_told y
  apart p q = ap number_told (sym p ∙ q)

  -- ---- each exactly when

  -- "more than 65,535 input bytes are 8", whatever the room
  pub many-exactly : (answer ≡ Refused too_many_bytes) ↔ (input_limit < length s)
  many-exactly = (by (leb (length s) input_limit) (leb (length (listing s)) (length l)) refl refl, many)
    where
      by : (t u : Bool) → leb (length s) input_limit ≡ t → leb (length (listing s)) (length l) ≡ u → answer ≡ Refused too_many_bytes → input_limit < length s
      by false u e f q = leb-false _ _ e
      by true true e f q = absurd (omega (arith, apart (fits (leb-true _ _ e) (leb-true _ _ f)) q))
      by true false e f q = absurd (omega (arith, apart (short (leb-true _ _ e) (leb-false _ _ f)) q))

  -- "7 exactly when this listing doesn't fit"
  pub short-exactly : (answer ≡ Refused buffer_short) ↔ ((length s ≤ input_limit) × (length l < length (listing s)))
  short-exactly = (by (leb (length s) input_limit) (leb (length (listing s)) (length l)) refl refl, λ h. short h.0 h.1)
    where
      by : (t u : Bool) → leb (length s) input_limit ≡ t → leb (length (listing s)) (length l) ≡ u → answer ≡ Refused buffer_short → (length s ≤ input_limit) × (length l < length (listing s))
      by true false e f q = (leb-true _ _ e, leb-false _ _ f)
      by true true e f q = absurd (omega (arith, apart (fits (leb-true _ _ e) (leb-true _ _ f)) q))
      by false u e f q = absurd (omega (arith, apart (many (leb-false _ _ e)) q))

  -- what is lent for n bytes is enough for each input of n bytes
  pub room-enough : (n : ℕ) → listing_room (length s) ≡ Gives n → n ≤ length l → answer ≡ Gives (length (listing s))
  unfolding listing_room
  room-enough n e h = by (leb (length s) input_limit) refl e
    where
      by : (t : Bool) → leb (length s) input_limit ≡ t → demand t too_many_bytes (Gives (12 * length s)) ≡ Gives n → answer ≡ Gives (length (listing s))
      by true q r =
          let k : 12 * length s ≡ n = ap (back_by (λ (x : ℕ). x) (λ x. x)) r in
          let b = listing-room s (leb-true _ _ q) in fits (leb-true _ _ q) (omega arith)
      by false q r = let z : ◌≡◌ {A = ℕ} 1 0 = ap (back_by (λ (x : ℕ). 0) (λ x. 1)) r in absurd (omega arith)

  -- ---- what the buffer holds

  -- a buffer of exactly the listing's length is the listing
  pub exact-room : length s ≤ input_limit → length l ≡ length (listing s) → put_buffer (lent_listing s) l ≡ listing s
  unfolding put_buffer put_answer
  exact-room h e = rw (lent_gives s h, le-leb (length (listing s)) (length l) (omega arith), past l (length (listing s)) (omega arith), append-nil (listing s))

-- ---- n empty lines need all of the room, so that no less is enough for every input of n bytes

module _ (n : ℕ) (h : n ≤ input_limit) (l : List ℕ) where
  abbrev ends : List ℕ
  ends = replicate n 10

  ends-within : length ends ≤ input_limit
  ends-within = rw (length-replicate {A = ℕ} n 10) h

  pub ends-fit : 12 * n ≤ length l → put_answer (lent_listing ends) l ≡ Gives (12 * n)
  ends-fit q = let e = room-reached n h in fits ends l ends-within (omega arith) ∙ ap Gives e

  pub ends-short : length l < 12 * n → put_answer (lent_listing ends) l ≡ Refused buffer_short
  ends-short q = let e = room-reached n h in (short-exactly ends l).1 (ends-within, omega arith)

-- "and then nothing is written": at each refusal of a text in a lent buffer
pub unwritten : (a : Answer (List ℕ)) (l : List ℕ) → given (put_answer a l) ≡ false → put_buffer a l ≡ l
unfolding put_buffer
unwritten (Gives text) l e = rw e
unwritten (Refused n) l e = refl
unwritten (RefusedAt n place) l e = refl

-- what is given is what the lines print: never `input too long`
pub lent-lines : (s text : List ℕ) → lent_listing s ≡ Gives text → text ≡ joined (map line_output (lines s))
unfolding lent_listing
lent-lines s text e = by (leb (length s) input_limit) refl e
  where
    by : (t : Bool) → leb (length s) input_limit ≡ t → demand t too_many_bytes (Gives (listing s)) ≡ Gives text → text ≡ joined (map line_output (lines s))
    by true q r = ap (back_by (λ (x : List ℕ). x) (λ n. text)) (sym r) ∙ lists s (leb-true _ _ q)
    by false q r = let z : ◌≡◌ {A = ℕ} 1 0 = ap (back_by (λ (x : List ℕ). 0) (λ n. 1)) r in absurd (omega arith)
