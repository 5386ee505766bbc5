-- What every writer of a text answers, from what it learnt of the date handed in; and where the buffer has room. Assumes nothing.
use mathlib.Core.Path.{◌≡◌, refl, sym, ap, ◌∙◌}
use mathlib.Core.Bool.{true, false}
use mathlib.Core.List.{List, ◌++◌}
use Prim.Native.Nat.{ℕ, ◌≤◌, zero-le}
use native.Mathlib.Nat.{le_refl}
use native.Mathlib.Omega.{arith}
use borrow.Author.Tests.{le-leb}
use lib.ListN.{length, take, drop}
use lib.Seq.{take_at, take_all}
use Rattle.rules.specs.Refusals.{Answer, Gives, Refused, RefusedAt, ◌then◌, given, not_of_kind}
use Rattle.rules.specs.Kinds.{Kind, Fields, Stored, of_kind, unpacked, handed, of_date}
use Rattle.rules.specs.Spelling.{put_answer, put_buffer}
use Rattle.rules.proofs.OnKinds.PackLaws.{handed-by, handed-tells}
use Rattle.rules.proofs.OnRefusals.Determined.{back_one}
use Rattle.std.specs.Prelude.{Result, Ok, Err, IsOk}
use Rattle.refusals.specs.declared.Refusal.{Refusal}
use Rattle.refusals.specs.declared.Refusal.TheVariants.{NotOfKind}
use Rattle.refusals.proofs.RefusalLaws.{refused, is-ok}
use Rattle.std.proofs.Common.{rules}
use Rattle.formatter.specs.Views.{spelled_as, length_of}

-- the three clauses of a writer, for a text or a refusal, a buffer that held l₀ and one that holds l
abbrev pub Done : Answer (List ℕ) → List ℕ → Result ℕ Refusal → List ℕ → Type 0
Done text l₀ r l = (spelled_as r ≡ put_answer text l₀) × ((l ≡ put_buffer text l₀) × (length_of r ≤ length l₀))

-- the date is one of the kind, and its text is t
pub by-text : {a : Answer Fields} {f : Fields} {t : List ℕ} (texts : Fields → Answer (List ℕ)) (l₀ l : List ℕ) (r : Result ℕ Refusal)
    → a ≡ Gives f → texts f ≡ Gives t → Done (Gives t) l₀ r l → Done (a then texts) l₀ r l
by-text texts l₀ l r e p d = rw (e, p) d

-- it is none of the kind, or the kind has no such text
pub by-refusal : (a : Answer (List ℕ)) (l₀ : List ℕ) → a ≡ Refused not_of_kind → Done a l₀ (Err NotOfKind) l₀
unfolding put_answer put_buffer
by-refusal a l₀ e = rw e (refl, (refl, zero-le))

-- ---- a text of a date of the kind, in a buffer with room for it

-- the length of what was written, by the view of an answer
pub length-told : {R : Type 0} (view : R → Answer ℕ) (long : R → ℕ) → ((r : R) → back_one (λ (x : ℕ). x) 0 (view r) ≡ long r)
    → (r : R) (n : ℕ) → view r ≡ Gives n → long r ≡ n
length-told view long same r n e = sym (same r) ∙ ap (back_one (λ (x : ℕ). x) 0) e

pub spelled-length : (r : Result ℕ Refusal) → back_one (λ (x : ℕ). x) 0 (spelled_as r) ≡ length_of r
spelled-length (Ok n) = refl
spelled-length (Err e) = none_given _ (refused ℕ e)
  where
    none_given : (a : Answer ℕ) → given a ≡ false → back_one (λ (x : ℕ). x) 0 a ≡ 0
    none_given (Gives n) g = search (rules, g)
    none_given (Refused n) g = refl
    none_given (RefusedAt n place) g = refl

-- what the writer of a text of at most 15 bytes answers then, and what the buffer holds
pub record Fits (t l₀ : List ℕ) (r : Result ℕ Refusal) (l : List ℕ) : Type 0 where
  pub is : IsOk r
  pub answered : (length_of r ≡ length t) × (length_of r ≤ 15)
  pub holds : l ≡ t ++ drop (length t) l₀

pub fits : (k : Kind) (d : Stored) (texts : Fields → List ℕ) (l₀ l : List ℕ) (r : Result ℕ Refusal) → given (handed k d) ≡ true
    → 15 ≤ length l₀ → (of_kind k (unpacked d) ≡ true → length (texts (unpacked d)) ≤ 15)
    → Done (of_date k d (λ f. Gives (texts f))) l₀ r l → Fits (texts (unpacked d)) l₀ r l
unfolding put_answer put_buffer
fits k d texts l₀ l r g room short done =
    let e = handed-by k d g in
    let s = short (handed-tells k d (unpacked d) e).of-kind in
    let n = length (texts (unpacked d)) in
    let test = le-leb n (length l₀) (omega arith) in
    let told = length-told spelled_as length_of spelled-length r n (rw (e, test) at done.0) in
    let there = is-ok (λ n. n) r (ap given (rw (e, test) at done.0)) in
    record { is = there; answered = (told, omega arith); holds = rw (e, test) at done.1.0 }

-- it is what is taken from the front
pub taken : (t r l : List ℕ) (n : ℕ) → n ≡ length t → l ≡ t ++ r → take n l ≡ t
taken t r l n k e = ap (take n) e ∙ take_at t r n (sym k)

-- a text that was built in a room of its own, and copied
pub copied : (t source l₀ l : List ℕ) → source ≡ t → l ≡ take (length source) source ++ drop (length source) l₀ → l ≡ t ++ drop (length t) l₀
copied t source l₀ l p q = (rw p at q) ∙ ap (λ (x : List ℕ). x ++ drop (length t) l₀) (take_all (length t) t (le_refl (length t)))
