-- The code, then two bytes of the year and two of the word.
use Rattle.std.proofs.Common.{◌≡◌, ◌<◌, ◌/◌, ◌%◌, ap, ◌∙◌, arith, rules, w16, to_z, of_z}
use Rattle.rules.specs.Book.{twos_complement, entry_bytes}
use Rattle.rules.proofs.OnWords.ByteLaws.{two-bytes-of}
use Rattle.book.proofs.slots.bytes_of.Goals as goal

pub returns : goal.returns
unfolding entry_bytes
returns c =
    let d = c.args.date in
    let y = c.twos_complement.result in
    let held : to_z w16 (of_z w16 d.year) ≡ d.year = search rules in
    let year : y ≡ twos_complement d.year = c.twos_complement.ensures ∙ ap twos_complement held in
    let small : y < 65536 = omega arith in
    let word : d.word < 65536 = omega arith in
    let top : y / 256 % 256 ≡ y / 256 = omega arith in
    let word_top : d.word / 256 % 256 ≡ d.word / 256 = omega arith in
    rw (c.to_be_bytes.ensures, c.to_be_bytes-2.ensures, c.kind_code.ensures, ← year, two-bytes-of y small, two-bytes-of d.word word, top, word_top)
