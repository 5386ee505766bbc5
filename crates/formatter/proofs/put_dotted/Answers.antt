-- `formatter::put_dotted` meets its contract: a date of the kind, and room for its text. Assumes nothing.
use Rattle.rules.specs.Spelling.{dotted}
use Rattle.rules.proofs.OnSpelling.LengthLaws.{text-lengths}
use Rattle.kinds.specs.Views.{kind_of, bits_of}
use Rattle.formatter.proofs.Texts.{fits}
use Rattle.formatter.proofs.put_dotted.Goals as goal

pub unwrap-requires : goal.unwrap-requires
unwrap-requires c =
    (fits (kind_of c.args.kind) (bits_of c.args.date) (dotted (kind_of c.args.kind)) c.args.out.now c.game_fmt.new.out c.game_fmt.result c.requires.1 c.requires.0
    (λ p. (text-lengths (kind_of c.args.kind) _ p).dotted-length.1) (c.game_fmt.ensures.result_value, (c.game_fmt.ensures.out_after, c.game_fmt.ensures.result_in_bounds))).is

pub returns-clause-value : goal.returns-clause-value
returns-clause-value c =
    let w = (fits (kind_of c.args.kind) (bits_of c.args.date) (dotted (kind_of c.args.kind)) c.args.out.now c.game_fmt.new.out c.game_fmt.result c.requires.1 c.requires.0
    (λ p. (text-lengths (kind_of c.args.kind) _ p).dotted-length.1) (c.game_fmt.ensures.result_value, (c.game_fmt.ensures.out_after, c.game_fmt.ensures.result_in_bounds))) in
    rw c.unwrap.ensures at w.answered

pub returns-clause-out_after : goal.returns-clause-out_after
returns-clause-out_after c =
    (fits (kind_of c.args.kind) (bits_of c.args.date) (dotted (kind_of c.args.kind)) c.args.out.now c.game_fmt.new.out c.game_fmt.result c.requires.1 c.requires.0
    (λ p. (text-lengths (kind_of c.args.kind) _ p).dotted-length.1) (c.game_fmt.ensures.result_value, (c.game_fmt.ensures.out_after, c.game_fmt.ensures.result_in_bounds))).holds
