-- `pennyquill::texts::pq_write_dotted` meets its contract: a code that is no kind's, and a length that fits 32 bits. Assumes nothing.
use Rattle.std.proofs.Common.{sym, ap, ◌∙◌}
use Rattle.rules.specs.Spelling.{put_answer, put_buffer}
use Rattle.codes.specs.Views.{coded_as}
use Rattle.pennyquill.proofs.Sizes.{small-fits, dotted-small}
use Rattle.pennyquill.proofs.texts.pq_write_dotted.Goals as goal

pub returns-in_default-clause-value : goal.returns-in_default-clause-value
unfolding put_answer
returns-in_default-clause-value c = rw (sym c.kind_of_code.ensures ∙ ap coded_as c.in_default.is) c.not_of_kind.ensures

pub returns-in_default-clause-out_after : goal.returns-in_default-clause-out_after
unfolding put_buffer
returns-in_default-clause-out_after c = rw (sym c.kind_of_code.ensures ∙ ap coded_as c.in_default.is)

pub counted-requires : goal.counted-requires
counted-requires c = small-fits (rw c.game_fmt.ensures.result_value (dotted-small _ _ _))
