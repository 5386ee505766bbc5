-- `iso_reading::is_iso_of` meets its contract: the date's own text has room, and stands at the front of the buffer. Assumes nothing.
use native.Mathlib.Omega.{arith}
use Rattle.std.specs.Prelude.{Ok, Err, refl}
use Rattle.kinds.specs.Views.{kind_of, bits_of}
use Rattle.iso_reading.proofs.Laws.{own-text, not-refused}
use Rattle.iso_reading.proofs.is_iso_of.Goals as goal

pub returns-in-Ok : goal.returns-in-Ok
returns-in-Ok c =
    λ is. rw (own-text (kind_of c.args.kind) (bits_of c.args.date) _ c.iso_8601.new.out (Ok c.in-Ok.n) (omega arith) (c.in-Ok.ensures.result_value, (c.in-Ok.ensures.out_after, c.in-Ok.ensures.result_in_bounds)) is) at c.same.ensures

pub returns-in-Err : goal.returns-in-Err
returns-in-Err c =
    λ is. not-refused (kind_of c.args.kind) (bits_of c.args.date) _ c.iso_8601.new.out (Err c.in-Err.field-0) (omega arith) (c.in-Err.ensures.result_value, (c.in-Err.ensures.out_after, c.in-Err.ensures.result_in_bounds)) is refl
