-- `listing::room::list` meets its contract: an input that is not too long has the program's listing. Assumes nothing.
use Rattle.rules.specs.Spelling.{put_answer, put_buffer}
use Rattle.requests.proofs.OnListingRoom.LentLaws.{lent_gives, lent_none}
use Rattle.listing.proofs.room.list.Goals as goal

pub returns-then-input-gt-INPUT_LIMIT-clause-result_value : goal.returns-then-input-gt-INPUT_LIMIT-clause-result_value
unfolding put_answer
returns-then-input-gt-INPUT_LIMIT-clause-result_value c = rw (lent_none c.args.input.now c.if-input-gt-INPUT_LIMIT.true)

pub returns-then-input-gt-INPUT_LIMIT-clause-out_after : goal.returns-then-input-gt-INPUT_LIMIT-clause-out_after
unfolding put_buffer
returns-then-input-gt-INPUT_LIMIT-clause-out_after c = rw (lent_none c.args.input.now c.if-input-gt-INPUT_LIMIT.true)

pub returns-clause-result_value : goal.returns-clause-result_value
returns-clause-result_value c = rw (lent_gives c.args.input.now c.if-input-gt-INPUT_LIMIT.false) c.listing.ensures.result_value

pub returns-clause-out_after : goal.returns-clause-out_after
returns-clause-out_after c = rw (lent_gives c.args.input.now c.if-input-gt-INPUT_LIMIT.false) c.listing.ensures.out_after
