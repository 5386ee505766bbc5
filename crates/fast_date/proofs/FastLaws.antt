-- The four shapes of D's fast path: a text of one answers as its eight digits do. Assumes nothing.
use mathlib.Core.Path.{◌≡◌, refl, sym, ap, ◌∙◌}
use mathlib.Core.Bool.{Bool, true, false, cond, ◌||◌, and-false, or-false, and-eq-true_iff}
use mathlib.Core.List.{List, [], ◌∷◌}
use Prim.Native.Nat.{ℕ, ◌+◌, ◌*◌, ◌-◌, ◌/◌, ◌%◌, ◌≤◌}
use native.Mathlib.Omega.{arith}
use borrow.Author.Tests.{leb-true, ne_eqb, le-leb}
use lib.Dec.{leb, eqb, lit≤}
use lib.IntN.{ℤ, pos}
use lib.ListN.{length}
use Rattle.rules.specs.Refusals.{Gives, ◌then◌, not_text}
use Rattle.rules.specs.Kinds.{kD, settled, store}
use Rattle.rules.specs.Text.{is_digit, digits, after_digits, decimal_value, leading, second_digit, one_or_two, after_dot, hour_after, dotted_part, shape_allowed, text_limit, text_fields, read_text}
use Rattle.rules.proofs.OnKinds.PackLaws.{same-fields}
use Rattle.util.specs.Word.{all_digits}
use Rattle.fast_date.specs.Fast.{alike, fast_shape, quickly, Quick, Answers, Silent, eight_date, eight}

record Digit (b : ℕ) : Type 0 where
  low : 48 ≤ b
  high : b ≤ 57
  yes : is_digit b ≡ true
  no_minus : eqb b 45 ≡ false
  no_plus : eqb b 43 ≡ false

digit : (b : ℕ) → is_digit b ≡ true → Digit b
digit b e =
    let ends = (and-eq-true_iff (leb 48 b) (leb b 57)).0 e in
    let l = leb-true 48 b ends.0 in let h = leb-true b 57 ends.1 in
    record { low = l; high = h; yes = e; no_minus = ne_eqb b 45 (λ q. omega arith); no_plus = ne_eqb b 43 (λ q. omega arith) }

-- ---- the year, and what follows it

module _ (a b c d : ℕ) (p : Digit a) (q : Digit b) (r : Digit c) (s : Digit d) where
  leads : (t : List ℕ) → leading (a ∷ b ∷ c ∷ d ∷ 46 ∷ t) ≡ Gives (record { value = pos (decimal_value (a ∷ b ∷ c ∷ d ∷ [])); rest = 46 ∷ t })
  unfolding leading digits after_digits
  leads t = simp (p.no_minus, p.no_plus, p.yes, q.yes, r.yes, s.yes)

  reads : (t : List ℕ) → 5 ≤ length (a ∷ b ∷ c ∷ d ∷ 46 ∷ t) → length (a ∷ b ∷ c ∷ d ∷ 46 ∷ t) ≤ 12 →
      store (read_text kD (a ∷ b ∷ c ∷ d ∷ 46 ∷ t))
      ≡ store (dotted_part (pos (decimal_value (a ∷ b ∷ c ∷ d ∷ []))) (46 ∷ t) then λ f. settled kD not_text f)
  unfolding read_text shape_allowed text_fields
  reads t l h =
      let n = length (a ∷ b ∷ c ∷ d ∷ 46 ∷ t) in
      simp (le-leb n text_limit (omega arith), le-leb 5 n l, le-leb n 12 h, p.no_plus, leads t)

-- ---- month and day

module _ (y : ℤ) (e : ℕ) (p : Digit e) (f : ℕ) (q : Digit f) where
  one-one : dotted_part y (46 ∷ e ∷ 46 ∷ f ∷ []) ≡ Gives (record { year = y; month = e - 48; day = f - 48; hour = 0 })
  unfolding dotted_part after_dot one_or_two second_digit hour_after
  one-one = simp (p.yes, q.yes)

  module _ (g : ℕ) (r : Digit g) where
    two-one : dotted_part y (46 ∷ e ∷ f ∷ 46 ∷ g ∷ []) ≡ Gives (record { year = y; month = (e - 48) * 10 + (f - 48); day = g - 48; hour = 0 })
    unfolding dotted_part after_dot one_or_two second_digit hour_after
    two-one = simp (p.yes, q.yes, r.yes)

    one-two : dotted_part y (46 ∷ e ∷ 46 ∷ f ∷ g ∷ []) ≡ Gives (record { year = y; month = e - 48; day = (f - 48) * 10 + (g - 48); hour = 0 })
    unfolding dotted_part after_dot one_or_two second_digit hour_after
    one-two = simp (p.yes, q.yes, r.yes)

    two-two : (h : ℕ) → Digit h → dotted_part y (46 ∷ e ∷ f ∷ 46 ∷ g ∷ h ∷ []) ≡ Gives (record { year = y; month = (e - 48) * 10 + (f - 48); day = (g - 48) * 10 + (h - 48); hour = 0 })
    unfolding dotted_part after_dot one_or_two second_digit hour_after
    two-two h s = simp (p.yes, q.yes, r.yes, s.yes)

-- ---- eight digits

record Digits (a b c d e f g h : ℕ) : Type 0 where
  at0 : Digit a
  at1 : Digit b
  at2 : Digit c
  at3 : Digit d
  at4 : Digit e
  at5 : Digit f
  at6 : Digit g
  at7 : Digit h

-- a digit's value, and eight of them as three numbers
value : {b : ℕ} → Digit b → b - 48 ≤ 9
value p = let h = p.high in omega arith

parts : (a b c d e f g h : ℕ) → e ≤ 9 → f ≤ 9 → g ≤ 9 → h ≤ 9 →
    let v = a * 10000000 + (b * 1000000 + (c * 100000 + (d * 10000 + (e * 1000 + (f * 100 + (g * 10 + (h * 1 + 0))))))) in
    (v / 10000 ≡ a * 1000 + (b * 100 + (c * 10 + (d * 1 + 0)))) × (v / 100 % 100 ≡ e * 10 + f) × (v % 100 ≡ g * 10 + h)
parts a b c d e f g h p q r s = (omega arith, omega arith, omega arith)

module _ (a b c d e f g h : ℕ) where
  all-eight : all_digits (a ∷ b ∷ c ∷ d ∷ e ∷ f ∷ g ∷ h ∷ []) ≡ true → Digits a b c d e f g h
  unfolding all_digits
  all-eight t =
      let t1 = (and-eq-true_iff (is_digit a) _).0 t in let t2 = (and-eq-true_iff (is_digit b) _).0 t1.1 in
      let t3 = (and-eq-true_iff (is_digit c) _).0 t2.1 in let t4 = (and-eq-true_iff (is_digit d) _).0 t3.1 in
      let t5 = (and-eq-true_iff (is_digit e) _).0 t4.1 in let t6 = (and-eq-true_iff (is_digit f) _).0 t5.1 in
      let t7 = (and-eq-true_iff (is_digit g) _).0 t6.1 in let t8 = (and-eq-true_iff (is_digit h) _).0 t7.1 in
      record {
        at0 = digit a t1.0;
        at1 = digit b t2.0;
        at2 = digit c t3.0;
        at3 = digit d t4.0;
        at4 = digit e t5.0;
        at5 = digit f t6.0;
        at6 = digit g t7.0;
        at7 = digit h t8.0;
      }

  -- their date: the first four are the year, then two and two
  taken-apart : (m n : ℕ) → Digits a b c d e f g h → m ≡ (e - 48) * 10 + (f - 48) → n ≡ (g - 48) * 10 + (h - 48) →
      eight_date (decimal_value (a ∷ b ∷ c ∷ d ∷ e ∷ f ∷ g ∷ h ∷ []))
      ≡ record { year = pos (decimal_value (a ∷ b ∷ c ∷ d ∷ [])); month = m; day = n; hour = 0 }
  unfolding decimal_value
  taken-apart m n t m-is n-is =
      let x = parts (a - 48) (b - 48) (c - 48) (d - 48) (e - 48) (f - 48) (g - 48) (h - 48)
      (value t.at4) (value t.at5) (value t.at6) (value t.at7) in
      same-fields (ap pos x.0) (x.1 ∙ sym m-is) (x.2 ∙ sym n-is) refl

-- ---- the four shapes

answered : (s bs : List ℕ) → fast_shape s ≡ all_digits bs →
    (all_digits bs ≡ true → store (read_text kD s) ≡ store (settled kD not_text (eight_date (decimal_value bs)))) → quickly s ≡ eight bs
unfolding quickly eight
answered s bs e h = rw e (split (all_digits bs) refl)
  where
    split : (t : Bool) → all_digits bs ≡ t →
        ◌≡◌ {A = Quick} (cond t (Answers (store (read_text kD s))) Silent) (cond t (Answers (store (settled kD not_text (eight_date (decimal_value bs))))) Silent)
    split true p = ap Answers (h p)
    split false p = refl

or-three : (t : Bool) → t || false || false || false ≡ t
or-three true = refl
or-three false = refl

-- YYYY.M.D, YYYY.MM.D, YYYY.M.DD and YYYY.MM.DD: the text, the eight digits that it has, what each says of the other
module _ (a b c d e f : ℕ) where
  is-8 : fast_shape (a ∷ b ∷ c ∷ d ∷ 46 ∷ e ∷ 46 ∷ f ∷ []) ≡ all_digits (a ∷ b ∷ c ∷ d ∷ 48 ∷ e ∷ 48 ∷ f ∷ [])
  unfolding fast_shape alike all_digits
  is-8 = or-three _

  pub shape-8 : quickly (a ∷ b ∷ c ∷ d ∷ 46 ∷ e ∷ 46 ∷ f ∷ []) ≡ eight (a ∷ b ∷ c ∷ d ∷ 48 ∷ e ∷ 48 ∷ f ∷ [])
  shape-8 = answered _ _ is-8 (λ all. let t = all-eight a b c d 48 e 48 f all in
      reads a b c d t.at0 t.at1 t.at2 t.at3 (e ∷ 46 ∷ f ∷ []) (lit≤ tt) (lit≤ tt)
      ∙ rw (one-one _ e t.at5 f t.at7, taken-apart a b c d 48 e 48 f (e - 48) (f - 48) t (omega arith) (omega arith)))

  module _ (g : ℕ) where
    is-9a : fast_shape (a ∷ b ∷ c ∷ d ∷ 46 ∷ e ∷ f ∷ 46 ∷ g ∷ []) ≡ all_digits (a ∷ b ∷ c ∷ d ∷ e ∷ f ∷ 48 ∷ g ∷ [])
    unfolding fast_shape alike all_digits
    is-9a = simp (and-false, or-false)

    pub shape-9a : quickly (a ∷ b ∷ c ∷ d ∷ 46 ∷ e ∷ f ∷ 46 ∷ g ∷ []) ≡ eight (a ∷ b ∷ c ∷ d ∷ e ∷ f ∷ 48 ∷ g ∷ [])
    shape-9a = answered _ _ is-9a (λ all. let t = all-eight a b c d e f 48 g all in
        reads a b c d t.at0 t.at1 t.at2 t.at3 (e ∷ f ∷ 46 ∷ g ∷ []) (lit≤ tt) (lit≤ tt)
        ∙ rw (two-one _ e t.at4 f t.at5 g t.at7, taken-apart a b c d e f 48 g ((e - 48) * 10 + (f - 48)) (g - 48) t refl (omega arith)))

    is-9b : fast_shape (a ∷ b ∷ c ∷ d ∷ 46 ∷ e ∷ 46 ∷ f ∷ g ∷ []) ≡ all_digits (a ∷ b ∷ c ∷ d ∷ 48 ∷ e ∷ f ∷ g ∷ [])
    unfolding fast_shape alike all_digits
    is-9b = simp (and-false, or-false)

    pub shape-9b : quickly (a ∷ b ∷ c ∷ d ∷ 46 ∷ e ∷ 46 ∷ f ∷ g ∷ []) ≡ eight (a ∷ b ∷ c ∷ d ∷ 48 ∷ e ∷ f ∷ g ∷ [])
    shape-9b = answered _ _ is-9b (λ all. let t = all-eight a b c d 48 e f g all in
        reads a b c d t.at0 t.at1 t.at2 t.at3 (e ∷ 46 ∷ f ∷ g ∷ []) (lit≤ tt) (lit≤ tt)
        ∙ rw (one-two _ e t.at5 f t.at6 g t.at7, taken-apart a b c d 48 e f g (e - 48) ((f - 48) * 10 + (g - 48)) t (omega arith) refl))

    module _ (h : ℕ) where
      is-10 : fast_shape (a ∷ b ∷ c ∷ d ∷ 46 ∷ e ∷ f ∷ 46 ∷ g ∷ h ∷ []) ≡ all_digits (a ∷ b ∷ c ∷ d ∷ e ∷ f ∷ g ∷ h ∷ [])
      unfolding fast_shape alike all_digits
      is-10 = refl

      pub shape-10 : quickly (a ∷ b ∷ c ∷ d ∷ 46 ∷ e ∷ f ∷ 46 ∷ g ∷ h ∷ []) ≡ eight (a ∷ b ∷ c ∷ d ∷ e ∷ f ∷ g ∷ h ∷ [])
      shape-10 = answered _ _ is-10 (λ all. let t = all-eight a b c d e f g h all in
          reads a b c d t.at0 t.at1 t.at2 t.at3 (e ∷ f ∷ 46 ∷ g ∷ h ∷ []) (lit≤ tt) (lit≤ tt)
          ∙ rw (two-two _ e t.at4 f t.at5 g t.at6 h t.at7, taken-apart a b c d e f g h ((e - 48) * 10 + (f - 48)) ((g - 48) * 10 + (h - 48)) t refl refl))
