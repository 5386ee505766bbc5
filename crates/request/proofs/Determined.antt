-- Each answer is determined: two that a contract allows are equal, since the view that the contract names can be read back.
-- Assumes nothing.
use Rattle.std.specs.Prelude.{◌≡◌, refl, Option, Some, None, List, ℕ}
use Rattle.rules.specs.Refusals.{Answer, not_text}
use Rattle.rules.specs.Listing as L
use Rattle.rules.proofs.OnRefusals.Determined.{Determines, determined, back_one}
use Rattle.refusals.proofs.Determined.{result-determined, option-determined}
use Rattle.kinds.specs.Views.{bits_of}
use Rattle.kinds.proofs.Determined.{packed_of, kind_back, kind-back}
use Rattle.request.specs.declared.Way.{Way}
use Rattle.request.specs.declared.Way.TheVariants as W
use Rattle.request.specs.declared.Request.{Request}
use Rattle.request.specs.Views.{way_of, request_as, numeral_as, asked_as}

abbrev way_back : L.Way → Way
way_back L.by_text = W.Text
way_back L.by_number = W.Number
way_back L.by_guess = W.Guess

way_back_lem : (w : Way) → way_back (way_of w) ≡ w
way_back_lem w = elim w as (λ (w : Way). way_back (way_of w) ≡ w) [ W.Text ↦ refl | W.Number ↦ refl | W.Guess ↦ refl ]

abbrev request_back : Answer L.Line → Option Request
request_back = back_one (λ (l : L.Line). Some (record { kind = kind_back l.kind; way = way_back l.way })) None

request-back : (s : List ℕ) (r : Option Request) → request_back (request_as s r) ≡ r
request-back s (Some r) = λ i. Some (record { kind = kind-back r.kind i; way = way_back_lem r.way i })
request-back s None = refl

-- of a line s
pub asks-determined : (s : List ℕ) → Determines (request_as s)
asks-determined s = determined (request_as s) request_back (request-back s)

pub numeral-determined : Determines numeral_as
numeral-determined = option-determined (λ n. n) (λ n. n) (λ n. refl) not_text

pub asked-determined : Determines asked_as
asked-determined = result-determined bits_of packed_of (λ d. refl)
