-- `formatter::put_text` meets its contract: each callee adds its piece to what is written. Assumes nothing.
use native.Mathlib.Omega.{arith}
use lib.ListN.{length-append}
use Rattle.rules.proofs.OnSpelling.WriteLaws.{Wrote, wrote, wrote-part, wrote-whole, wrote-short}
use Rattle.formatter.specs.Pieces.{year_text, separated, hour_text, text_of}
use Rattle.formatter.proofs.put_text.Goals as goal

pub returns-then-out-end : goal.returns-then-out-end
unfolding text_of
returns-then-out-end c =
    let a = c.args in
    let s = wrote-short (text_of a.year a.style a.month a.day a.hour) a.out.now (simp length-append (omega arith)) in
    record { result_value = s.answered; out_after = s.holds; result_in_bounds = omega arith }

pub returns : goal.returns
unfolding text_of
returns c =
    let a = c.args in
    let w = wrote-part (hour_text a.hour)
    (wrote-part (separated a.style a.day)
    (wrote-part (separated a.style a.month)
    (wrote (year_text a.year) a.out.now c.year_length-month_at.ensures.value (omega arith) c.put_year.ensures)
    c.separated_length.ensures.value (omega arith) c.put_separated.ensures)
    c.separated_length-2.ensures.value (omega arith) c.put_separated-2.ensures)
    c.hour_length.ensures.value (omega arith) c.put_hour.ensures in
    let s = wrote-whole w in record { result_value = s.answered; out_after = s.holds; result_in_bounds = w.room }
