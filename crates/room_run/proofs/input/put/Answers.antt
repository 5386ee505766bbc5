-- The room is too short for the text, or for the line ends behind it, or holds both.
use Rattle.std.proofs.Common.{◌++◌, ◌<◌, length, replicate, length-append, refl, arith}
use Rattle.std.proofs.lemmas.List.{length-replicate}
use Rattle.rules.proofs.OnSpelling.WriteLaws.{wrote-whole, wrote-short}
use Rattle.room_run.proofs.Behind.{ends-behind}
use Rattle.room_run.proofs.input.put.Goals as goal
use Rattle.room_run.proofs.input.put.Goals.{then-free-text-via-then-free-text, then-free-text-via-else-free-text+then-free-text-2}

pub returns-then-free-text : goal.returns-then-free-text
returns-then-free-text c =
    let a = c.args in
    let short : length a.free.now < length (a.text.now ++ replicate a.ends 10) =
    elim c.then-free-text.branch [
      | then-free-text-via-then-free-text w ↦ simp (length-append, length-replicate) (omega (arith, w.if-free-text.true))
      | then-free-text-via-else-free-text+then-free-text-2 w ↦
          simp (length-append, length-replicate) (omega (arith, w.if-free-text.false, w.if-free-text-2.true))
    ] in
    let s = wrote-short (a.text.now ++ replicate a.ends 10) a.free.now short in
    record { result_value = s.answered; free_after = s.holds; result_in_bounds = omega arith }

pub returns : goal.returns
returns c =
    let a = c.args in
    let w = ends-behind a.text.now a.free.now (length a.text.now) a.ends refl (omega (arith, c.if-free-text.false, c.if-free-text-2.false)) c.copy.ensures (c.fill.ensures.after (λ y e. e)) in
    let s = wrote-whole w in
    record { result_value = s.answered; free_after = s.holds; result_in_bounds = w.room }
