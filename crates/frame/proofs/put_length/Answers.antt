-- The four bytes of the length stand before what followed them.
use Rattle.std.proofs.Common.{◌≡◌, ◌+◌, ◌/◌, ◌%◌, ℕ, List, ◌++◌, length, drop, ap, sym, ◌∙◌, arith}
use Rattle.std.proofs.Math.Seq.{sets-eq}
use Rattle.rules.specs.Words.{big_bytes}
use Rattle.rules.specs.Book.{length_size}
use Rattle.rules.proofs.OnWords.ByteLaws.{byte-count, four-bytes-of}
use Rattle.frame.proofs.put_length.Goals as goal

pub returns : goal.returns
returns c =
    let s = c.args.b.now in
    let m = c.args.m in
    let a = big_bytes length_size m in
    let first : m / 16777216 % 256 ≡ m / 16777216 = omega arith in
    let four : length a ≡ 4 = byte-count length_size m in
    let copied : c.copy_from_slice.new.self ≡ a =
    c.copy_from_slice.ensures.after ∙ c.to_be_bytes.ensures ∙ rw first (sym (four-bytes-of m c.requires.1)) in
    let past : 0 + length a ≡ 4 = omega arith in
    ap (λ (t : List ℕ). t ++ drop 4 s) copied
    ∙ sym (sets-eq a s 0 (omega arith) ∙ ap (λ (n : ℕ). a ++ drop n s) past)
