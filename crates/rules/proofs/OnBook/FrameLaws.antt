-- What it is to hold a frame of some pieces, that these are found exactly then, and each way in which a frame is answered. Over the frame.
-- Assumes nothing.
use mathlib.Core.Path.{◌≡◌, refl, sym, ap, ◌∙◌}
use mathlib.Core.Bool.{Bool, true, false}
use mathlib.Core.List.{List}
use Prim.Native.Nat.{ℕ, ◌+◌, ◌*◌, ◌-◌, ◌/◌, ◌%◌, ◌^◌, ◌≤◌, ◌<◌}
use native.Mathlib.Nat.{div-add-mod', mul-le-mul_right, le_of_mul-le-mul_right, mul-mod_left, mul-div_cancel}
use native.Mathlib.Omega.{arith}
use borrow.Author.Tests.{le-leb, lt-leb, eq-eqb, ne_eqb, leb-true, eqb-true}
use lib.Dec.{leb, eqb}
use lib.ListN.{length, drop}
use Rattle.rules.specs.Words.{within}
use Rattle.rules.specs.Refusals.{Answer, Gives, Refused, RefusedAt, ◌then◌, demand, bad_length, bad_version}
use Rattle.rules.specs.Book.{Frame, length_size, head_size, length_said, version_of, pieces, pieces_at, length_limit, framed}
use Rattle.rules.proofs.OnKinds.KindLaws.{low, high, yes-within}
use Rattle.rules.proofs.OnBook.PieceLaws.{piece-count}

-- records have bytes, and the length of a full book fits the bytes that say it
pub record Sensible (frame : Frame) : Type 0 where
  pub some : 0 < frame.size
  pub fits : length_limit frame < 256 ^ length_size

-- s starts with a frame of the pieces rs
pub record Framed (frame : Frame) (s : List ℕ) (rs : List (List ℕ)) : Type 0 where
  pub says : length_said s ≡ 1 + length rs * frame.size
  pub most : length rs ≤ frame.most
  pub fits : head_size + length rs * frame.size ≤ length s
  pub version : version_of s ≡ frame.version
  pub cut : pieces (length rs) frame.size (drop head_size s) ≡ rs

-- ---- answers in a chain

-- a demand that leads to a value was met
pub demand-met : {A : Type 0} (t : Bool) (n : ℕ) (x : Answer A) (a : A) → demand t n x ≡ Gives a → (t ≡ true) × (x ≡ Gives a)
demand-met true n x a e = (refl, e)
demand-met false n x a e = let z : ◌≡◌ {A = ℕ} 0 1 = cc in absurd (omega arith)

-- a step that leads to a value had one to start from
pub record Stepped {A B : Type 0} (x : Answer A) (f : A → Answer B) (b : B) : Type 0 where
  pub value : A
  pub is : x ≡ Gives value
  pub next : f value ≡ Gives b

pub then-met : {A B : Type 0} (x : Answer A) (f : A → Answer B) (b : B) → (x then f) ≡ Gives b → Stepped x f b
then-met (Gives a) f b e = record { value = a; is = refl; next = e }
then-met (Refused n) f b e = let z : ◌≡◌ {A = ℕ} 0 1 = cc in absurd (omega arith)
then-met (RefusedAt n place) f b e = let z : ◌≡◌ {A = ℕ} 0 1 = cc in absurd (omega arith)

-- a refusal comes from where the chain starts, if nothing after that refuses
pub same-refusal : {A B : Type 0} (x : Answer A) (f : A → B) (n : ℕ) → (x then λ a. Gives (f a)) ≡ Refused n → x ≡ Refused n
same-refusal (Gives a) f n e = let z : ◌≡◌ {A = ℕ} 0 1 = cc in absurd (omega arith)
same-refusal (Refused m) f n e = let z : m ≡ n = cc in ap Refused z
same-refusal (RefusedAt m place) f n e = let z : ◌≡◌ {A = ℕ} 0 1 = cc in absurd (omega arith)

pub same_place : {A B : Type 0} (x : Answer A) (f : A → B) (n i : ℕ) → (x then λ a. Gives (f a)) ≡ RefusedAt n i → x ≡ RefusedAt n i
same_place (Gives a) f n i e = let z : ◌≡◌ {A = ℕ} 0 1 = cc in absurd (omega arith)
same_place (Refused m) f n i e = let z : ◌≡◌ {A = ℕ} 0 1 = cc in absurd (omega arith)
same_place (RefusedAt m j) f n i e = let z : m ≡ n = cc in let w : j ≡ i = cc in rw (z, w)

-- ---- each way in which a frame is answered, where the four bytes say L

module _ (frame : Frame) (s : List ℕ) where
  abbrev said : ℕ → Answer (List (List ℕ))
  said L =
      demand (within 1 (length_limit frame) L) bad_length
      (demand (leb (L + length_size) (length s)) bad_length
      (demand (eqb (version_of s) frame.version) bad_version
      (demand (eqb ((L - 1) % frame.size) 0) bad_length (Gives (pieces_at frame s L)))))

  pub short : length s < head_size → framed frame s ≡ Refused bad_length
  unfolding framed
  short h = rw (lt-leb head_size (length s) h)

  module _ {L : ℕ} (e : L ≡ length_said s) (h : head_size ≤ length s) where
    opened : framed frame s ≡ said L
    unfolding framed
    opened = rw (le-leb head_size (length s) h) (ap said (sym e))

    pub none_said : L < 1 → framed frame s ≡ Refused bad_length
    none_said g = opened ∙ simp (lt-leb 1 L g)

    module _ (g₁ : 1 ≤ L) where
      pub over : length_limit frame < L → framed frame s ≡ Refused bad_length
      over g₂ = opened ∙ simp (le-leb 1 L g₁, lt-leb L (length_limit frame) g₂)

      module _ (g₂ : L ≤ length_limit frame) where
        inside : within 1 (length_limit frame) L ≡ true
        inside = yes-within 1 (length_limit frame) L g₁ g₂

        pub past_end : length s < L + length_size → framed frame s ≡ Refused bad_length
        past_end g₃ = opened ∙ rw (inside, lt-leb (L + length_size) (length s) g₃)

        module _ (g₃ : L + length_size ≤ length s) where
          pub version-not : (version_of s ≡ frame.version → ⊥) → framed frame s ≡ Refused bad_version
          version-not g₄ = opened ∙ rw (inside, le-leb (L + length_size) (length s) g₃, ne_eqb (version_of s) frame.version g₄)

          module _ (g₄ : version_of s ≡ frame.version) where
            pub uneven : ((L - 1) % frame.size ≡ 0 → ⊥) → framed frame s ≡ Refused bad_length
            uneven g₅ =
                opened
                ∙ rw (inside, le-leb (L + length_size) (length s) g₃, eq-eqb (version_of s) frame.version g₄, ne_eqb ((L - 1) % frame.size) 0 g₅)

            pub cut_up : (L - 1) % frame.size ≡ 0 → framed frame s ≡ Gives (pieces_at frame s L)
            cut_up g₅ =
                opened
                ∙ rw (inside, le-leb (L + length_size) (length s) g₃, eq-eqb (version_of s) frame.version g₄, eq-eqb ((L - 1) % frame.size) 0 g₅)

-- ---- a frame's pieces are what is found, and the other way round

module _ (frame : Frame) (sensible : Sensible frame) where
  pub framed-found : (s : List ℕ) (rs : List (List ℕ)) → Framed frame s rs → framed frame s ≡ Gives rs
  framed-found s rs b =
      let k = frame.size in
      let n = length rs in
      let u : 1 + n * k - 1 ≡ n * k = omega arith in
      let d : (1 + n * k - 1) / k ≡ n = ap (λ (x : ℕ). x / k) u ∙ mul-div_cancel n sensible.some in
      let m : (1 + n * k - 1) % k ≡ 0 = ap (λ (x : ℕ). x % k) u ∙ mul-mod_left n k in
      let mm : n * k ≤ frame.most * k = mul-le-mul_right k b.most in
      cut_up frame s (sym b.says) (omega (arith, b.fits)) (omega arith) (omega arith) (omega (arith, b.fits)) b.version m
      ∙ ap Gives (ap (λ (x : ℕ). pieces x k (drop head_size s)) d ∙ b.cut)

  pub found_framed : (s : List ℕ) (rs : List (List ℕ)) → framed frame s ≡ Gives rs → Framed frame s rs
  unfolding framed
  found_framed s rs e =
      let k = frame.size in
      let L = length_said s in
      let n = (L - 1) / k in
      let g₀ = demand-met (leb head_size (length s)) bad_length _ rs e in
      let g₁ = demand-met (within 1 (length_limit frame) L) bad_length _ rs g₀.1 in
      let g₂ = demand-met (leb (L + length_size) (length s)) bad_length _ rs g₁.1 in
      let g₃ = demand-met (eqb (version_of s) frame.version) bad_version _ rs g₂.1 in
      let g₄ = demand-met (eqb ((L - 1) % k) 0) bad_length _ rs g₃.1 in
      let g₅ : pieces_at frame s L ≡ rs = cc g₄.1 in
      let c : n ≡ length rs = sym (piece-count n k (drop head_size s)) ∙ ap length g₅ in
      let m : (L - 1) % k ≡ 0 = eqb-true ((L - 1) % k) 0 g₄.0 in
      let w : length rs * k + (L - 1) % k ≡ L - 1 = rw c at (div-add-mod' (L - 1) k) in
      let t₁ : 1 ≤ L = low 1 (length_limit frame) L g₁.0 in
      let t₂ : L ≤ length_limit frame = high 1 (length_limit frame) L g₁.0 in
      let t₃ : L + length_size ≤ length s = leb-true (L + length_size) (length s) g₂.0 in
      let q : length rs * k ≤ frame.most * k = omega arith in
      record {
        says = omega arith;
        most = le_of_mul-le-mul_right q sensible.some;
        fits = omega arith;
        version = eqb-true (version_of s) frame.version g₃.0;
        cut = rw (← c) g₅;
      }

  -- what the number of its pieces tells
  module _ (s : List ℕ) (n : ℕ) (e : (framed frame s then λ rs. Gives (length rs)) ≡ Gives n) where
    step : Stepped (framed frame s) (λ rs. Gives (length rs)) n
    step = then-met (framed frame s) (λ rs. Gives (length rs)) n e

    many : length step.value ≡ n
    many = cc step.next

    holds : Framed frame s step.value
    holds = found_framed s step.value step.is

    pub count_cut : framed frame s ≡ Gives (pieces n frame.size (drop head_size s))
    count_cut = step.is ∙ ap Gives (sym (rw many at holds.cut))

    pub count_fits : head_size + n * frame.size ≤ length s
    count_fits = rw many at holds.fits
