-- `formatter::styles::iso_hour` meets its contract, where an hour was raised by 1. Assumes nothing.
use Rattle.std.proofs.Common.{◌∙◌}
use Rattle.rules.specs.Spelling.{iso_hour}
use Rattle.formatter.proofs.PieceLaws.{lowered}
use Rattle.formatter.proofs.styles.iso_hour.Goals as goal

pub returns-in-Eu5-clause-result_value : goal.returns-in-Eu5-clause-result_value
unfolding iso_hour
returns-in-Eu5-clause-result_value c = rw c.in-Eu5.is (c.iso_hour_before-in-Eu5.ensures.result_value ∙ lowered _)

pub returns-in-Vic3-clause-result_value : goal.returns-in-Vic3-clause-result_value
unfolding iso_hour
returns-in-Vic3-clause-result_value c = rw c.in-Vic3.is (c.iso_hour_before-in-Vic3.ensures.result_value ∙ lowered _)
