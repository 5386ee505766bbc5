-- One entry and the calls that name one: what its bytes declare, that it is in order where its table is, and its bytes read back. Over
-- the bytes of a key. Assumes nothing.
use mathlib.Core.Path.{◌≡◌, refl, sym, ap, ◌∙◌}
use mathlib.Core.Bool.{Bool, true, false, ◌&&◌}
use mathlib.Core.List.{List, [], ◌∷◌, ◌++◌}
use Prim.Native.Nat.{ℕ, zero, suc, ◌+◌, ◌-◌, ◌^◌, ◌≤◌, ◌<◌}
use native.Mathlib.Omega.{arith}
use lib.ListN.{length, get_or, take, length-append}
use lib.Seq.{take_at, get_or_at}
use Rattle.rules.specs.Words.{big_bytes}
use Rattle.rules.specs.Refusals.{Answer, Gives, Refused, RefusedAt, ◌then◌, demand, given}
use Rattle.rules.specs.Kinds.{Kind, kR, kD, kH, kU, kE, kV, kind_by}
use Rattle.rules.specs.Numbers.{reads_numbers}
use Rattle.rules.specs.Book.{kind_code, pick}
use Rattle.rules.proofs.OnKinds.KindLaws.{left, right, low, high}
use Rattle.rules.proofs.OnWords.ByteLaws.{byte-count, number-back}
use Rattle.rules.proofs.OnBook.FrameLaws.{demand-met, then-met}
use Rattle.requests.specs.Entries.{keep, standing, declare}
use Rattle.requests.specs.FieldTable.{bad_entry, key_in, code_in, is_key, kind_among, declared_kind, Declared, declaring, declared_by, entry_bytes, entry_for, all_declare}
use Rattle.requests.proofs.OnEntries.KeepLaws.{either}

pub given-then : {A B : Type 0} (x : Answer A) (f : A → B) → given (x then λ a. Gives (f a)) ≡ given x
given-then (Gives a) f = refl
given-then (Refused n) f = refl
given-then (RefusedAt n place) f = refl

-- ---- kinds by their codes

by_code : (n : ℕ) (k : Kind) → kind_by kind_code n (kind_code k) ≡ Gives k
by_code n kR = refl
by_code n kD = refl
by_code n kH = refl
by_code n kU = refl
by_code n kE = refl
by_code n kV = refl

pub kind-back : (allowed : Kind → Bool) (k : Kind) → allowed k ≡ true → kind_among allowed (kind_code k) ≡ Gives k
unfolding kind_among
kind-back allowed k h = rw (by_code bad_entry k, h)

pub kind-allowed : (allowed : Kind → Bool) (code : ℕ) (k : Kind) → kind_among allowed code ≡ Gives k → allowed k ≡ true
unfolding kind_among
kind-allowed allowed code k e =
    let f = then-met (kind_by kind_code bad_entry code) _ k e in
    let d = demand-met (allowed f.value) bad_entry _ k f.next in
    let z : f.value ≡ k = cc d.1 in
    rw z at d.0

module _ (key_size : ℕ) where
  -- ---- what a key and a code declare

  pub record Allowed (key code : ℕ) (d : Declared) : Type 0 where
    pub is-key : is_key key_size key ≡ true
    pub is-kind : declared_kind code ≡ Gives d.kind
    pub same : d.key ≡ key

  pub declaring-tells : (key code : ℕ) (d : Declared) → declaring key_size key code ≡ Gives d → Allowed key code d
  unfolding declaring
  declaring-tells key code d e =
      let g = demand-met (is_key key_size key) bad_entry _ d e in
      let f = then-met (declared_kind code) _ d g.1 in
      let y : record { key = key; kind = f.value } ≡ d = cc f.next in
      record {
        is-key = g.0;
        is-kind = f.is ∙ ap Gives (ap (λ (x : Declared). x.kind) y);
        same = ap (λ (x : Declared). x.key) (sym y);
      }

  pub declares : (key code : ℕ) (k : Kind) → is_key key_size key ≡ true → declared_kind code ≡ Gives k → declaring key_size key code ≡ Gives (record { key = key; kind = k })
  unfolding declaring
  declares key code k h e = rw (h, e)

  pub no_key : (key code : ℕ) → is_key key_size key ≡ false → declaring key_size key code ≡ Refused bad_entry
  unfolding declaring
  no_key key code h = rw h

  pub no_kind : (key code : ℕ) → declared_kind code ≡ Refused bad_entry → declaring key_size key code ≡ Refused bad_entry
  unfolding declaring
  no_kind key code e = either (is_key key_size key) (λ h. rw (h, e)) (λ h. rw h)

  -- ---- an entry's bytes

  module _ (r : List ℕ) where
    -- a key in its range declares what its code does
    pub declares-by : is_key key_size (key_in key_size r) ≡ true → given (declared_by key_size r) ≡ given (declared_kind (code_in key_size r))
    unfolding declared_by declaring
    declares-by h = rw h (given-then (declared_kind (code_in key_size r)) _)

    pub some-declared : given (declared_by key_size r) ≡ true → is_key key_size (key_in key_size r) ≡ true
    unfolding declared_by declaring
    some-declared g =
        either (is_key key_size (key_in key_size r)) (λ h. h) (λ h. let z : false ≡ true = rw h at g in let w : ◌≡◌ {A = ℕ} 0 1 = cc in absurd (omega arith))

    -- where it declares a field, its code alone says the kind
    pub by-its-code : {B : Type 0} (next : Kind → Answer B) → given (declared_by key_size r) ≡ true →
        (declared_by key_size r then λ d. next d.kind) ≡ (declared_kind (code_in key_size r) then next)
    unfolding declared_by declaring
    by-its-code next g = rw (some-declared g) (inner (declared_kind (code_in key_size r)))
      where
        inner : (x : Answer Kind) → (◌then◌ {B = Declared} x (λ k. Gives (record { key = key_in key_size r; kind = k })) then λ d. next d.kind) ≡ (x then next)
        inner (Gives k) = refl
        inner (Refused n) = refl
        inner (RefusedAt n place) = refl

    pub declared-here : (k : Kind) → given (declared_by key_size r) ≡ true → declared_kind (code_in key_size r) ≡ Gives k →
        declared_by key_size r ≡ Gives (record { key = key_in key_size r; kind = k })
    unfolding declared_by
    declared-here k g e = declares (key_in key_size r) (code_in key_size r) k (some-declared g) e

    pub declared-none : declared_kind (code_in key_size r) ≡ Refused bad_entry → declared_by key_size r ≡ Refused bad_entry
    unfolding declared_by
    declared-none e = no_kind (key_in key_size r) (code_in key_size r) e

  -- the bytes of an entry, read back
  module _ (d : Declared) where
    pub bytes-long : length (entry_bytes key_size d) ≡ key_size + 1
    unfolding entry_bytes
    bytes-long = rw (length-append, byte-count key_size d.key) (omega arith)

    pub key_back : is_key key_size d.key ≡ true → key_in key_size (entry_bytes key_size d) ≡ d.key
    unfolding key_in entry_bytes
    key_back h =
        let l = low 1 (256 ^ key_size - 1) d.key h in
        let g = high 1 (256 ^ key_size - 1) d.key h in
        rw (take_at (big_bytes key_size d.key) (kind_code d.kind ∷ []) key_size (byte-count key_size d.key)) (number-back key_size d.key (omega arith))

    code-back : code_in key_size (entry_bytes key_size d) ≡ kind_code d.kind
    unfolding code_in entry_bytes
    code-back = get_or_at (big_bytes key_size d.key) (kind_code d.kind) [] 0 key_size (byte-count key_size d.key)

    pub bytes_back : is_key key_size d.key ≡ true → reads_numbers d.kind ≡ true → declared_by key_size (entry_bytes key_size d) ≡ Gives d
    unfolding declared_by
    bytes_back h g =
        rw (key_back h, code-back) (declares d.key (kind_code d.kind) d.kind h (kind-back reads_numbers d.kind g))

  -- ---- entries that all declare fields

  pub all_here : (rs : List (List ℕ)) → all_declare key_size rs ≡ true → (i : ℕ) (r : List ℕ) → pick rs i ≡ Gives r → given (declared_by key_size r) ≡ true
  unfolding all_declare pick
  all_here [] a i r e = let z : ◌≡◌ {A = ℕ} 0 1 = cc in absurd (omega arith)
  all_here (x ∷ rs) a zero r e = let p : x ≡ r = cc in rw p at (left (given (declared_by key_size x)) _ a)
  all_here (x ∷ rs) a (suc i) r e = all_here rs (right (given (declared_by key_size x)) _ a) i r e

  pub all-kept : (key : List ℕ → ℕ) (p : ℕ → Bool) (rs : List (List ℕ)) → all_declare key_size rs ≡ true → all_declare key_size (keep key p rs) ≡ true
  unfolding all_declare keep
  all-kept key p [] a = refl
  all-kept key p (r ∷ rs) a =
      let g = left (given (declared_by key_size r)) _ a in
      let more = all-kept key p rs (right (given (declared_by key_size r)) _ a) in
      either (p (key r)) (λ e. rw (e, g) more) (λ e. rw e more)

  all-joined : (xs ys : List (List ℕ)) → all_declare key_size xs ≡ true → all_declare key_size ys ≡ true → all_declare key_size (xs ++ ys) ≡ true
  unfolding all_declare
  all-joined [] ys a b = b
  all-joined (x ∷ xs) ys a b =
      rw (left (given (declared_by key_size x)) _ a) (all-joined xs ys (right (given (declared_by key_size x)) _ a) b)

  all_more : (r : List ℕ) (rs : List (List ℕ)) → given (declared_by key_size r) ≡ true → all_declare key_size rs ≡ true → all_declare key_size (r ∷ rs) ≡ true
  unfolding all_declare
  all_more r rs g a = rw g a

  pub all-declared : (key : List ℕ → ℕ) (r : List ℕ) (rs : List (List ℕ)) → given (declared_by key_size r) ≡ true → all_declare key_size rs ≡ true →
      all_declare key_size (declare key r rs) ≡ true
  unfolding declare
  all-declared key r rs g a = all-joined _ _ (all-kept key _ rs a) (all_more r _ g (all-kept key _ rs a))

  -- the first of those that a test keeps declares a field
  pub first-declares : (key : List ℕ → ℕ) (p : ℕ → Bool) (rs : List (List ℕ)) (r : List ℕ) (ys : List (List ℕ)) → all_declare key_size rs ≡ true →
      keep key p rs ≡ r ∷ ys → given (declared_by key_size r) ≡ true
  unfolding all_declare
  first-declares key p rs r ys a e = inner (rw e at (all-kept key p rs a))
    where
      inner : all_declare key_size (r ∷ ys) ≡ true → given (declared_by key_size r) ≡ true
      inner b = left (given (declared_by key_size r)) (all_declare key_size ys) b
