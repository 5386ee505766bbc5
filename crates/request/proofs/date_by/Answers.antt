-- `request::date_by` meets its contract: a refusal has one digit, way by way. Assumes nothing.
use mathlib.Core.Path.{ap}
use Rattle.request.specs.Views.{way_of}
use Rattle.request.proofs.Answers.{by_way}
use Rattle.request.proofs.date_by.Goals as goal

pub returns-in-Text-clause-result_bound : goal.returns-in-Text-clause-result_bound
returns-in-Text-clause-result_bound c =
    (by_way _ _ _ c.requires.way_value c.date_by_text.result (ap way_of c.in-Text.is) c.date_by_text.ensures).1

pub returns-in-Number-clause-result_bound : goal.returns-in-Number-clause-result_bound
returns-in-Number-clause-result_bound c =
    (by_way _ _ _ c.requires.way_value c.date_by_number.result (ap way_of c.in-Number.is) c.date_by_number.ensures).1

pub returns-in-Guess-clause-result_bound : goal.returns-in-Guess-clause-result_bound
returns-in-Guess-clause-result_bound c =
    (by_way _ _ _ c.requires.way_value c.date_by_guess.result (ap way_of c.in-Guess.is) c.date_by_guess.ensures).1
