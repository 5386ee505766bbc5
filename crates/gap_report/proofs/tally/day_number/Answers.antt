-- The days from 0.1.1.
use Rattle.std.proofs.Common.{◌≡◌, ◌∙◌, to_z, of_z, w32, rules}
use Rattle.kinds.specs.Views.{kind_of, bits_of}
use Rattle.gap_report.proofs.WalkLaws.{number-found, number-none}
use Rattle.gap_report.proofs.tally.day_number.Goals as goal

pub from_least-requires : goal.from_least-requires
from_least-requires c =
    let held : to_z w32 (of_z w32 c.in-Some.n) ≡ c.in-Some.n = search rules in
    rw held (number-found (kind_of c.args.kind) (bits_of c.args.date) c.requires _ c.in-Some.ensures).near

pub returns-in-Some : goal.returns-in-Some
returns-in-Some c =
    let held : to_z w32 (of_z w32 c.in-Some.n) ≡ c.in-Some.n = search rules in
    c.from_least.ensures ∙ held ∙ (number-found (kind_of c.args.kind) (bits_of c.args.date) c.requires _ c.in-Some.ensures).is

pub returns-in-None : goal.returns-in-None
returns-in-None c = number-none (kind_of c.args.kind) (bits_of c.args.date) c.requires c.in-None.ensures
