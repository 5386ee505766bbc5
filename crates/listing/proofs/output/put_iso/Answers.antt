-- `listing::output::put_iso` meets its contract: a date of the kind, and room for its text. Assumes nothing.
use Rattle.rules.specs.Spelling.{iso}
use Rattle.rules.proofs.OnSpelling.LengthLaws.{text-lengths}
use Rattle.kinds.specs.Views.{kind_of, bits_of}
use Rattle.formatter.proofs.Texts.{fits}
use Rattle.listing.proofs.output.put_iso.Goals as goal

pub unwrap-requires : goal.unwrap-requires
unwrap-requires c =
    (fits (kind_of c.args.kind) (bits_of c.args.date) (iso (kind_of c.args.kind)) c.args.out.now c.iso_8601.new.out c.iso_8601.result c.requires.1 c.requires.0
    (λ p. (text-lengths (kind_of c.args.kind) _ p).iso-length.1) (c.iso_8601.ensures.result_value, (c.iso_8601.ensures.out_after, c.iso_8601.ensures.result_in_bounds))).is

pub returns-clause-value : goal.returns-clause-value
returns-clause-value c =
    let w = fits (kind_of c.args.kind) (bits_of c.args.date) (iso (kind_of c.args.kind)) c.args.out.now c.iso_8601.new.out c.iso_8601.result c.requires.1 c.requires.0
    (λ p. (text-lengths (kind_of c.args.kind) _ p).iso-length.1) (c.iso_8601.ensures.result_value, (c.iso_8601.ensures.out_after, c.iso_8601.ensures.result_in_bounds)) in
    rw c.unwrap.ensures at w.answered

pub returns-clause-out_after : goal.returns-clause-out_after
returns-clause-out_after c =
    (fits (kind_of c.args.kind) (bits_of c.args.date) (iso (kind_of c.args.kind)) c.args.out.now c.iso_8601.new.out c.iso_8601.result c.requires.1 c.requires.0
    (λ p. (text-lengths (kind_of c.args.kind) _ p).iso-length.1) (c.iso_8601.ensures.result_value, (c.iso_8601.ensures.out_after, c.iso_8601.ensures.result_in_bounds))).holds
