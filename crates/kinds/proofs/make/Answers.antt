-- `kinds::make` meets its contract: what passes the test is packed. Assumes nothing.
use Rattle.std.proofs.Common.{rules, sym, ap, ◌∙◌, arith}
use Rattle.rules.specs.Refusals.{Gives}
use Rattle.kinds.specs.Views.{kind_of, fields_of}
use Rattle.kinds.proofs.Laws.{small, made-is}
use Rattle.kinds.proofs.make.Goals as goal

pub pack-requires : goal.pack-requires
pack-requires c = let s = small _ _ _ _ (sym c.fits_kind.ensures ∙ c.if-fits_kind.true) in (omega arith, omega (arith, s), s.1, s.2)

pub returns-then-fits_kind : goal.returns-then-fits_kind
returns-then-fits_kind c =
    λ n.
    let a = c.args in
    rw (made-is (kind_of a.kind) n (fields_of a.fields) (search rules) (sym c.fits_kind.ensures ∙ c.if-fits_kind.true))
    (ap Gives c.pack.ensures)

pub returns : goal.returns
returns c =
    λ n. let a = c.args in rw (made-is (kind_of a.kind) n (fields_of a.fields) (search rules) (sym c.fits_kind.ensures ∙ c.if-fits_kind.false))
