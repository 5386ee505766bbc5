use Rattle.std.proofs.Common.{◌≡◌, ◌+◌, ◌-◌, ℕ, length, take, drop, ap, ◌∙◌, sym, arith}
use Rattle.std.proofs.lemmas.List.{length-take, length-drop}
use Rattle.spans.specs.Bytes.{slice, index_of}
use Rattle.spans.proofs.Found.{index-found, index-none, slice-taken}
use Rattle.spans.proofs.find.Goals as goal

pub returns-then-found-byte-clause-value : goal.returns-then-found-byte-clause-value
returns-then-found-byte-clause-value c =
    rw (slice-taken c.args.from c.args.to c.args.s.now c.requires.0)
    (ap (λ n. c.args.from + n) (sym (index-found c.args.byte _ c.loop-i.i c.loop-i-test.true c.loop-i.invariant c.if-found-byte.true)))

pub returns-clause-value : goal.returns-clause-value
returns-clause-value c =
    let part = take (c.args.to - c.args.from) (drop c.args.from c.args.s.now) in
    let long : length part ≡ c.args.to - c.args.from = simp (length-take, length-drop) (omega arith) in
    rw (slice-taken c.args.from c.args.to c.args.s.now c.requires.0, index-none c.args.byte part (λ k l. c.loop-i.invariant k (omega arith)), long) (omega arith)
