-- What a line prints, from what was read of it: the date that it is answered, a refusal, or `?`. Assumes nothing.
use mathlib.Core.Path.{◌≡◌, refl, sym, ap, subst}
use mathlib.Core.Bool.{true}
use mathlib.Core.List.{List, ◌++◌}
use Prim.Native.Nat.{ℕ, ◌<◌}
use native.Mathlib.Omega.{arith}
use lib.Dec.{lit<}
use lib.ListN.{drop}
use Rattle.rules.specs.Words.{byte}
use Rattle.rules.specs.Refusals.{Answer, Gives, Refused, RefusedAt, given, unreadable_line}
use Rattle.rules.specs.Kinds.{Kind, Fields, Stored, of_kind, unpacked, handed, mark_allowed, stored_with, store_with}
use Rattle.rules.specs.Listing.{Way, by_text, by_number, by_guess, letter, read_line, date_by, refused_text, date_text, request_text, line_end, line_output}
use Rattle.rules.proofs.OnKinds.PackLaws.{unpack-pack, marked-back}
use Rattle.rules.proofs.OnRefusals.Determined.{back_one, back_by}
use Rattle.rules.proofs.OnRefusals.OutcomeLaws.{Outcome, gives, refuses, Dated}
use Rattle.rules.proofs.OnListing.RefusalLaws.{RefusedBy, date-outcome, has-way}
use Rattle.std.proofs.Common.{rules, ◌∙◌}
use Rattle.refusals.specs.declared.Refusal.{Refusal}
use Rattle.refusals.specs.Numbers.{number_of}
use Rattle.refusals.specs.Answers.{refusal_as}
use Rattle.refusals.proofs.RefusalLaws.{refused}
use Rattle.request.specs.Views.{mark_by}
use Rattle.request.proofs.Answers.{number-told}
use Rattle.listing.specs.Views.{date_line}

-- a line that is not read
pub unread-output : (s : List ℕ) → read_line s ≡ Refused unreadable_line → line_output s ≡ refused_text (byte "?") 8 ++ line_end
unfolding line_output request_text
unread-output s e = rw e

-- each way's mark is one that a date may have
mark-of-way : (w : Way) → (mark_by w < 4) × (mark_allowed (mark_by w) ≡ true)
mark-of-way by_text = (lit< tt, refl)
mark-of-way by_number = (lit< tt, refl)
mark-of-way by_guess = (lit< tt, refl)

module _ (s : List ℕ) (k : Kind) (w : Way) (line : read_line s ≡ Gives (record { kind = k; way = w; rest = drop 4 s })) where
  -- the line by its date's answer
  answered : (a : Answer Fields) → date_by w k (drop 4 s) ≡ a → line_output s ≡ date_text k a ++ line_end
  unfolding line_output request_text
  answered a e = rw (line, e)

  told : Outcome (RefusedBy w) (Dated k) (date_by w k (drop 4 s))
  told = date-outcome w k (drop 4 s) (has-way s _ line)

  -- a date handed in by its own bits
  pub record Printed (d : Stored) : Type 0 where
    pub of-kind : given (handed k d) ≡ true
    pub is : line_output s ≡ date_line k (unpacked d)

  -- the date that it is answered, with the mark of the way
  by-fields : (f : Fields) → date_by w k (drop 4 s) ≡ Gives f → of_kind k f ≡ true → Printed (stored_with (mark_by w) f)
  unfolding date_text
  by-fields f e p =
      let m = mark-of-way w in
      record {
        of-kind = ap given (marked-back k (mark_by w) f m.0 m.1 p);
        is = rw (unpack-pack k (mark_by w) f m.0 p) (answered (Gives f) e);
      }

  by-told : (a : Answer Fields) (b : Stored) → Outcome (RefusedBy w) (Dated k) a → date_by w k (drop 4 s) ≡ a → Gives b ≡ store_with (mark_by w) a → Printed b
  by-told (Gives f) b (gives p) e q =
      let same : stored_with (mark_by w) f ≡ b = ap (back_one (λ (x : Stored). x) b) (sym q) in
      subst Printed same (by-fields f e p)
  by-told (Refused n) b (refuses h) e q = let z : ◌≡◌ {A = ℕ} 0 1 = ap (back_one (λ (x : Stored). 0) 1) q in absurd (omega arith)
  by-told (RefusedAt n i) b o e q = elim o [ ]

  pub date-output : (b : Stored) → Gives b ≡ store_with (mark_by w) (date_by w k (drop 4 s)) → Printed b
  date-output b q = by-told (date_by w k (drop 4 s)) b told refl q

  by-refusal : (a : Answer Fields) (n : ℕ) → Outcome (RefusedBy w) (Dated k) a → date_by w k (drop 4 s) ≡ a → Refused n ≡ store_with (mark_by w) a → line_output s ≡ refused_text (letter k) n ++ line_end
  unfolding date_text
  by-refusal (Gives f) n (gives p) e q = let z : ◌≡◌ {A = ℕ} 1 0 = ap (back_one (λ (x : Stored). 0) 1) q in absurd (omega arith)
  by-refusal (Refused m) n (refuses h) e q = let same : n ≡ m = ap (back_by (λ (x : Stored). 0) (λ i. i)) q in rw same (answered (Refused m) e)
  by-refusal (RefusedAt m i) n o e q = elim o [ ]

  -- the same of the code's refusal, by its number
  by-error : (a : Answer Fields) (e : Refusal) → Outcome (RefusedBy w) (Dated k) a → date_by w k (drop 4 s) ≡ a → refusal_as e ≡ store_with (mark_by w) a → line_output s ≡ refused_text (letter k) (number_of e) ++ line_end
  unfolding date_text
  by-error (Gives f) e o p q = search (rules, sym (refused Stored e) ∙ ap given q)
  by-error (Refused m) e o p q =
      let same : number_of e ≡ m = sym (number-told e) ∙ ap (back_by (λ (x : Stored). 0) (λ i. i)) q in rw same (answered (Refused m) p)
  by-error (RefusedAt m i) e o p q = elim o [ ]

  pub error-output : (e : Refusal) → refusal_as e ≡ store_with (mark_by w) (date_by w k (drop 4 s)) → line_output s ≡ refused_text (letter k) (number_of e) ++ line_end
  error-output e q = by-error (date_by w k (drop 4 s)) e told refl q
