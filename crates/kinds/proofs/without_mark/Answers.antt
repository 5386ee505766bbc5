-- `kinds::without_mark` meets its contract: the fields of a date handed in are small. Assumes nothing.
use Rattle.std.proofs.Common.{sym, ap, ◌∙◌, arith}
use Rattle.kinds.specs.Views.{opened_as}
use Rattle.kinds.proofs.Laws.{handed-small}
use Rattle.kinds.proofs.without_mark.Goals as goal

pub pack-requires : goal.pack-requires
pack-requires c = let s = handed-small _ _ _ (sym c.unpack.ensures ∙ ap opened_as c.in_ok-fields.was) in (omega arith, s.0, s.1, s.2)
