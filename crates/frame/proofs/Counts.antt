-- The number of pieces, from what is answered of the frame. Assumes nothing.
use mathlib.Core.Path.{◌≡◌, refl, ap}
use mathlib.Core.List.{List}
use Prim.Native.Nat.{ℕ}
use lib.ListN.{length}
use Rattle.rules.specs.Refusals.{Answer, Gives, ◌then◌}
use Rattle.rules.specs.Book.{Frame, framed}
use Rattle.frame.specs.Views.{pieces_counted}

module _ (frame : Frame) (s : List ℕ) where
  pub counted-by : {x : Answer (List (List ℕ))} → framed frame s ≡ x → pieces_counted frame s ≡ (x then λ rs. Gives (length rs))
  unfolding pieces_counted
  counted-by e = ap (λ (a : Answer (List (List ℕ))). a then λ rs. Gives (length rs)) e

  -- and what the laws of `rules` say it from
  pub counted_is : pieces_counted frame s ≡ (framed frame s then λ rs. Gives (length rs))
  unfolding pieces_counted
  counted_is = refl
