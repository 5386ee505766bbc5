-- The numbers that a listing answers are small, so that 32 bits hold them: its room and its length. Assumes nothing.
use mathlib.Core.List.{List}
use Prim.Native.Nat.{ℕ, ◌≤◌}
use native.Mathlib.Omega.{arith}
use borrow.Author.Tests.{leb-true}
use lib.Dec.{leb}
use lib.ListN.{length}
use Rattle.rules.specs.Spelling.{put_answer}
use Rattle.rules.specs.Listing.{input_limit}
use Rattle.requests.specs.ListingRoom.{listing_room, lent_listing}
use Rattle.requests.proofs.OnListingRoom.RoomLaws.{listing-room}
use Rattle.pennyquill.specs.Boundary.{number_of}
use Rattle.pennyquill.proofs.Sizes.{Small, small-then, small-demand, small-within}

-- the room of the longest input
abbrev most : ℕ
most = 786420

abbrev Within : ℕ → Type 0
Within n = n ≤ most

abbrev WithinBytes : List ℕ → Type 0
WithinBytes text = length text ≤ most

pub room_small : (n : ℕ) → number_of (listing_room n) ≤ 786420
unfolding listing_room
room_small n =
    small-within most (omega arith) (listing_room n)
    (small-demand Within (leb n input_limit) _ _ (λ fits. let h = leb-true n input_limit fits in omega arith))

lent-small : (s : List ℕ) → Small WithinBytes (lent_listing s)
unfolding lent_listing
lent-small s =
    small-demand WithinBytes (leb (length s) input_limit) _ _
    (λ fits. let h = leb-true (length s) input_limit fits in let r = listing-room s h in omega arith)

pub listing-small : (s out : List ℕ) → number_of (put_answer (lent_listing s) out) ≤ 786420
unfolding put_answer
listing-small s out =
    small-within most (omega arith) (put_answer (lent_listing s) out)
    (small-then WithinBytes Within (lent_listing s) _ (lent-small s) (λ text few. small-demand Within (leb (length text) (length out)) _ _ (λ fits. few)))
